use Rattle.std.proofs.Common.{rules}
use Rattle.planes.proofs.Carrying.{plus, carrying_down}
use Rattle.planes.proofs.lower.Goals as goal

pub returns : goal.returns
returns c = record {
  number = λ g f m d e. c.count.ensures.number g (plus f m) f m (carrying_down g f m _ (λ x y z p. search rules)) d e;
  others = c.count.ensures.others;
}

use Rattle.std.proofs.Common.{rules}
use Rattle.planes.proofs.Carrying.{plus, carrying_up}
use Rattle.planes.proofs.raise.Goals as goal

pub returns : goal.returns
returns c = record {
  number = λ g f m d e. c.count.ensures.number g f (plus f m) m (carrying_up g f m _ (λ x y z p. search rules)) d e;
  others = c.count.ensures.others;
}

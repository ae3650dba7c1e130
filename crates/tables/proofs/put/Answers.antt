use Rattle.std.proofs.Common.{rules}
use Rattle.tables.proofs.Rows.{each_weak}
use Rattle.tables.proofs.put.Goals as goal

pub returns : goal.returns
returns c = each_weak _ _ _ _ _ (λ g x y p. search rules) c.each.ensures

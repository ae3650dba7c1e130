use Rattle.std.proofs.Common.{rules}
use Rattle.tables.proofs.Rows.{each_weak}
use Rattle.tables.proofs.put_name.Goals as goal

pub returns-then-i-lt8 : goal.returns-then-i-lt8
returns-then-i-lt8 c = each_weak _ _ _ _ _ (λ g x y e. rw e (c.low_name_row.ensures g c.if-i-lt8.true)) c.put.ensures

pub returns-else-i-lt8 : goal.returns-else-i-lt8
returns-else-i-lt8 c = each_weak _ _ _ _ _ (λ g x y p. search rules) c.each.ensures

-- The loop's invariant: the rows before row g have become others.
use Rattle.tables.specs.Filling.{EachRow}
use Rattle.tables.proofs.each.Given as goal

abbrev pub invariant-loop-g : goal.invariant-loop-g
invariant-loop-g t l = EachRow (λ g x y. goal.F-post t l.of g x y) l.g l.initial.rows l.rows

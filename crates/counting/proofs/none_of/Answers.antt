use mathlib.Core.Path.{sym, ◌∙◌}
use Rattle.counting.proofs.Tests.{marked_none, marked_row}
use Rattle.counting.proofs.none_of.Goals as goal

pub returns-then-empty : goal.returns-then-empty
returns-then-empty c f r = record { row = c.args.row; is = marked_none _ _ f _ r (sym c.empty.ensures ∙ c.if-empty.true); told = c.empty.ensures }

pub returns-else-empty : goal.returns-else-empty
returns-else-empty c f r = record { row = c.both.result; is = marked_row _ _ f _ r _ _ c.low_row.ensures c.both.ensures; told = c.empty-else-empty.ensures }

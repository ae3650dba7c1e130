-- The loop's invariant: the row is added in the columns passed, and the sums of before it to the running ones.
use mathlib.Core.Path.{◌≡◌}
use Rattle.checks.specs.Columns.{added}
use Rattle.checks.proofs.add_row.Given as goal

abbrev pub invariant-loop-j : goal.invariant-loop-j
invariant-loop-j l = (l.sums ≡ added l.j l.initial.sums l.row) × (l.runs ≡ added l.j l.initial.runs l.initial.sums)

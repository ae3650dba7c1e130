-- The loop's invariant: the columns have the sums of the rows from `row` on.
use Prim.Native.Nat.{ℕ, ◌+◌, ◌*◌}
use mathlib.Core.Path.{◌≡◌}
use mathlib.Core.List.{List}
use lib.ListN.{drop}
use Rattle.checks.proofs.Columns.{sums_of, runs_of}
use Rattle.checks.proofs.front_weight.Given as goal

-- the rows from row k on are added up
pub record From (block sums runs : List ℕ) (k : ℕ) : Type 0 where
  pub rows : ℕ
  pub place : k + rows ≡ 16
  pub sums_are : sums ≡ sums_of rows (drop (16 * k) block)
  pub runs_are : runs ≡ runs_of rows (drop (16 * k) block)

abbrev pub invariant-loop-row : goal.invariant-loop-row
invariant-loop-row l = From l.block l.sums l.runs l.row

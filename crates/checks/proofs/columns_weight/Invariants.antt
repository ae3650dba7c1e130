-- The loop's invariant: `run` is the total of the columns passed, and `sum` their weight, each of which added at most 4,080 and 17 × 65,280.
use Prim.Native.Nat.{◌-◌, ℕ, ◌+◌, ◌*◌, ◌≤◌}
use mathlib.Core.Path.{◌≡◌}
use mathlib.Core.List.{List}
use lib.ListN.{drop}
use Rattle.model.specs.Ledgers.{weighted}
use Rattle.checks.specs.Columns.{total}
use Rattle.checks.proofs.columns_weight.Given as goal

-- the columns from j on are weighed
pub record From (sums runs : List ℕ) (run sum j : ℕ) : Type 0 where
  pub passed : j ≤ 16
  pub run_small : run ≤ 4080 * (16 - j)
  pub sum_small : sum ≤ 1109760 * (16 - j)
  pub run_is : run ≡ total (drop j sums)
  pub sum_is : sum ≡ weighted 0 (drop j sums) + 16 * total (drop j runs)

abbrev pub invariant-loop-column : goal.invariant-loop-column
invariant-loop-column l = From l.sums l.runs l.run l.sum l.column

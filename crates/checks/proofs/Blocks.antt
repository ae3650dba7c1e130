-- What the promise comes to on a whole block. Assumes nothing.
use Prim.Native.Nat.{ℕ}
use mathlib.Core.Path.{◌≡◌}
use mathlib.Core.List.{List}
use lib.ListN.{length}
use borrow.Author.Tests.{eq-eqb}
use Rattle.model.specs.Ledgers.{checked}
use Rattle.checks.specs.Blocks.{whole_checked}

pub whole_checked_lem : (block : List ℕ) → length block ≡ 512 → whole_checked block ≡ checked block
whole_checked_lem block h = simp (eq-eqb _ _ h)

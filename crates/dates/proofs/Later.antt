-- Days added one after another, and what every month has. Assumes nothing.
use mathlib.Core.Path.{◌≡◌}
use mathlib.Core.Bool.{◌||◌}
use Prim.Native.Nat.{ℕ, zero, suc, ◌-◌, ◌<◌, ◌≤◌}
use native.Mathlib.Omega.{arith}
use lib.Dec.{eqb}
use borrow.Author.Tests.{lt-ltb, le-ltb}
use Rattle.model.specs.Readings.{accepted, refused}
use Rattle.model.specs.Dates.{leap, days_in, next_day, days_later}
use Rattle.model.proofs.Truth.{cond_case}

-- every month has 28 days
pub days_least : (year month : ℕ) → 28 ≤ days_in year month
unfolding days_in
days_least year month =
    cond_case (λ d. 28 ≤ d) (eqb month 2) _ _
    (λ _. cond_case (λ d. 28 ≤ d) (leap year) 29 28 (λ _. omega arith) (λ _. omega arith))
    (λ _. cond_case (λ d. 28 ≤ d) (eqb month 4 || (eqb month 6 || (eqb month 9 || eqb month 11))) 30 31 (λ _. omega arith) (λ _. omega arith))

pub later_none : (left date : ℕ) → left ≡ 0 → days_later left date ≡ accepted date
unfolding days_later
later_none left date e = rw e

module _ (left date : ℕ) (some : 0 < left) where
  -- one day more, or 86 past the last date
  pub later_past : 21991231 ≤ date → days_later left date ≡ refused 86
  unfolding days_later
  later_past h = let more : left ≡ suc (left - 1) = omega arith in rw more (rw (le-ltb date 21991231 h))

  pub later_one : date < 21991231 → days_later left date ≡ days_later (left - 1) (next_day date)
  unfolding days_later
  later_one h = go left some
    where
      go : (k : ℕ) → 0 < k → days_later k date ≡ days_later (k - 1) (next_day date)
      go zero s = absurd (omega arith)
      go (suc k) s = let same : suc k - 1 ≡ k = omega arith in rw (lt-ltb date 21991231 h, same)

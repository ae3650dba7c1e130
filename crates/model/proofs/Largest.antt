-- The largest of some numbers. Assumes nothing.
use mathlib.Core.Path.{◌≡◌, refl, ap, ap₂}
use mathlib.Core.Logic.{◌⊎◌, inl, inr}
use Prim.Native.Nat.{ℕ, zero, suc, ◌≤◌, ◌<◌, max}
use native.Mathlib.Omega.{arith}
use Rattle.model.specs.Layers.{largest}
use Rattle.model.proofs.Truth.{below_suc}

module _ (f : ℕ → ℕ) where
  pub largest_least : (k m : ℕ) → ((j : ℕ) → j < k → f j ≤ m) → largest f k ≤ m
  unfolding largest
  largest_least zero m h = omega arith
  largest_least (suc k) m h = omega (arith, largest_least k m (λ j l. h j (omega arith)), h k (omega arith))

  pub largest_above : (k j : ℕ) → j < k → f j ≤ largest f k
  unfolding largest
  largest_above zero j l = absurd (omega arith)
  largest_above (suc k) j l = go (below_suc l) (largest_above k j)
    where
      go : (j < k) ⊎ (j ≡ k) → (j < k → f j ≤ largest f k) → f j ≤ max (largest f k) (f k)
      go (inl m) h = omega (arith, h m)
      go (inr e) h = omega (arith, ap f e)

pub largest_cong : (f h : ℕ → ℕ) (k : ℕ) → ((j : ℕ) → j < k → f j ≡ h j) → largest f k ≡ largest h k
unfolding largest
largest_cong f h zero e = refl
largest_cong f h (suc k) e = ap₂ max (largest_cong f h k (λ j l. e j (omega arith))) (e k (omega arith))

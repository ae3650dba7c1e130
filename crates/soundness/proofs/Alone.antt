-- The row that has one coalition. Assumes nothing.
use mathlib.Core.Path.{◌≡◌, sym, ap, ◌∙◌}
use Prim.Native.Nat.{ℕ, zero, suc, ◌+◌, ◌-◌, ◌*◌, ◌/◌, ◌%◌, ◌^◌, ◌≤◌, ◌<◌}
use native.Mathlib.Nat.{zero-add, pow-succ'}
use native.Mathlib.Decide.{ℕ_discrete}
use native.Mathlib.Omega.{arith}
use lib.Dec.{eqb}
use borrow.Author.Tests.{eq-eqb, ne_eqb}
use Rattle.model.specs.Coalitions.{bit, packed}
use Rattle.model.proofs.Packed.{shifted}
use Rattle.words.proofs.Packing.{packed_zero}

-- no bit of a word in which it does not stand
pub only_none : (c w : ℕ) → (c / 64 ≡ w → ⊥) → 0 ≡ packed (λ d. eqb d c) (64 * w) 64
only_none c w h = sym ((packed_zero (λ d. eqb d c) (64 * w) 64).1 (λ d low high. ne_eqb d c (λ e. h (omega arith))))

-- one bit of the k from i on
only-bit : (c i k : ℕ) → i ≤ c → c < i + k → packed (λ d. eqb d c) i k ≡ 2 ^ (c - i)
unfolding packed
only-bit c i zero low high = absurd (omega arith)
only-bit c i (suc k) low high = elim (ℕ_discrete i c) [
  | yes e ↦ here e
  | no n ↦ there (only-bit c (suc i) k) n
]
  where
    here : i ≡ c → bit (eqb i c) + 2 * packed (λ d. eqb d c) (suc i) k ≡ 2 ^ (c - i)
    here e =
        let none : packed (λ d. eqb d c) (suc i) k ≡ 0 = (packed_zero (λ d. eqb d c) (suc i) k).1 (λ d low high. ne_eqb d c (λ q. omega arith)) in
        let at : c - i ≡ 0 = omega arith in
        rw (eq-eqb i c e, none, at)

    there : (suc i ≤ c → c < suc i + k → packed (λ d. eqb d c) (suc i) k ≡ 2 ^ (c - suc i)) → (i ≡ c → ⊥) → bit (eqb i c) + 2 * packed (λ d. eqb d c) (suc i) k ≡ 2 ^ (c - i)
    there ih n =
        let at : c - i ≡ suc (c - suc i) = omega arith in
        rw (ne_eqb i c n, ih (omega arith) (omega arith), at) (zero-add (2 * 2 ^ (c - suc i)) ∙ sym (pow-succ' 2 (c - suc i)))

-- in its own word, as the code shifts
pub only_own : (c w : ℕ) → c / 64 ≡ w → 1 * 2 ^ (c % 64) % 2 ^ 64 ≡ packed (λ d. eqb d c) (64 * w) 64
only_own c w e =
    let at : c - 64 * w ≡ c % 64 = omega arith in
    shifted (c % 64) (omega arith) ∙ ap (λ (i : ℕ). 2 ^ i) (sym at) ∙ sym (only-bit c (64 * w) 64 (omega arith) (omega arith))

-- What the loops over coalitions and sizes keep. Assumes nothing.
use mathlib.Core.Path.{◌≡◌, refl, sym, ap, ◌∙◌, subst}
use Prim.Native.Nat.{ℕ, ◌+◌, ◌-◌, ◌*◌, ◌%◌, ◌^◌, ◌≤◌, ◌<◌, max, min}
use native.Mathlib.Numerals.{add-one}
use borrow.Author.Tests.{eq-eqb}
use native.Mathlib.Nat.{add-zero, zero-add}
use native.Mathlib.Omega.{arith}
use mathlib.Core.Bool.{Bool, true, false, cond}
use mathlib.Core.List.{List, ◌∷◌}
use Rattle.std.specs.List.{range_with_len}
use Rattle.std.specs.Range.{range_inclusive_start, range_inclusive_end, range_inclusive_exhausted, range_inclusive_len, range_inclusive_left, range_inclusive_steps}
use Rattle.std.specs.Iterator.{AlwaysYields}
use Rattle.std.proofs.lemmas.Iterator.{YieldsList}
use Rattle.std.specs.declared.ops.RangeInclusive.{RangeInclusive}
use Rattle.std.proofs.Common.{Option, filter, fold, length, eqb, zero, suc, ◌⊎◌, inl, inr}
use lib.Pow.{pow_mono}
use Rattle.model.specs.Coalitions.{bit, those}
use Rattle.model.specs.Layers.{size, layer, largest, largest_layer}
use Rattle.model.proofs.Packed.{shifted}
use Rattle.sperner.proofs.Counts.{count, count-suc, count_cong}
use Rattle.sperner.proofs.Sizes.{of_size, ones_size}

-- ---- the coalitions of one size

-- those of f, as the filter finds them
filtered : (f : ℕ → Bool) (i k : ℕ) → filter f (range_with_len i k) ≡ those f i k
unfolding those
filtered f i zero = refl
filtered f i (suc k) = rw (add-one i) (ap (λ (l : List ℕ). cond (f i) (i ∷ l) l) (filtered f (suc i) k))

-- a coalition of n names has as many members of 64
pub counted_layer : (n k : ℕ) → length (filter (λ c. eqb (size 64 c) k) (range_with_len 0 (2 ^ min n 12))) ≡ layer (min n 12) k
unfolding layer
counted_layer n k =
    let few : min n 12 ≤ 64 = omega arith in
    ap length (filtered (λ c. eqb (size 64 c) k) 0 (2 ^ min n 12))
    ∙ count_cong (λ c. eqb (size 64 c) k) (of_size (min n 12) k) (2 ^ min n 12) (λ c below.
    ap (λ (s : ℕ). eqb s k) (sym (ones_size 64 c (omega (arith, pow_mono few))) ∙ ones_size (min n 12) c below))

-- and with one more of k members there is one more to count
pub counts_in_lem : (n k c found r : ℕ) → c < 2 ^ min n 12 → r ≡ size 64 c → found ≡ count (of_size (min n 12) k) c → r ≡ k → found + 1 ≡ count (of_size (min n 12) k) (c + 1)
counts_in_lem n k c found r below sized so_far e =
    let few : min n 12 ≤ 64 = omega arith in
    let names : size 64 c ≡ size (min n 12) c = sym (ones_size 64 c (omega (arith, pow_mono few))) ∙ ones_size (min n 12) c below in
    let one : bit (of_size (min n 12) k c) ≡ 1 = ap bit (eq-eqb (size (min n 12) c) k (sym names ∙ sym sized ∙ e)) in
    omega (arith, count-suc (of_size (min n 12) k) c, ap (count (of_size (min n 12) k)) (add-one c))

pub power_fits : (n : ℕ) → 1 * 2 ^ min n 12 % 2 ^ 64 ≡ 2 ^ min n 12
power_fits n = shifted (min n 12) (omega arith)

-- ---- the largest of the layers

largest-suc : (f : ℕ → ℕ) (k : ℕ) → largest f (k + 1) ≡ max (largest f k) (f k)
unfolding largest
largest-suc f k = ap (largest f) (add-one k)

-- the layers from k on, `count` of them, over the largest of those before
largest_on : (f : ℕ → ℕ) (k count : ℕ) → fold (λ most i. max most (f i)) (largest f k) (range_with_len k count) ≡ largest f (k + count)
largest_on f k zero = ap (largest f) (sym (add-zero k))
largest_on f k (suc count) =
    ap (λ (most : ℕ). fold (λ m i. max m (f i)) most (range_with_len (k + 1) count)) (sym (largest-suc f k)) ∙ largest_on f (k + 1) count ∙ ap (largest f) (omega arith)

pub folded_largest : (n : ℕ) → fold (λ most k. max most (layer n k)) 0 (range_with_len 0 (suc n)) ≡ largest_layer n
unfolding largest largest_layer
folded_largest n = largest_on (layer n) 0 (suc n) ∙ ap (largest (layer n)) (zero-add (suc n))

-- what `0..=n` gives
abbrev pub next : RangeInclusive ℕ → Option ℕ → RangeInclusive ℕ → Type 0
next = range_inclusive_steps (λ x y. y - x) (λ x y. y ≡ x + 1)

abbrev left : RangeInclusive ℕ → ℕ
left = range_inclusive_left (λ x y. y - x)

spent : (s : RangeInclusive ℕ) → range_inclusive_exhausted s ≡ true → left s ≡ 0
spent s e = ap (range_inclusive_len (λ x y. y - x) (range_inclusive_start s) (range_inclusive_end s)) e

bool : (b : Bool) → (b ≡ true) ⊎ (b ≡ false)
bool true = inl refl
bool false = inr refl

inclusive : (n : ℕ) (s : RangeInclusive ℕ) → left s ≡ n → AlwaysYields next (λ x. x) s (range_with_len (range_inclusive_start s) n)
inclusive zero s e = λ x t p. omega (arith, p.1.1)
inclusive (suc zero) s e = ((λ t p. omega (arith, p.1.0)), λ x t p. (p.1.0, inclusive zero t (omega (arith, p.1.1))))
inclusive (suc (suc n)) s e = (
  (λ t p. omega (arith, p.1.0)),
  λ x t p. (
    p.1.0,
    elim (bool (range_inclusive_exhausted t)) [
      | inl w ↦ absurd (omega (arith, spent t w, p.1.1))
      | inr w ↦ subst (λ (k : ℕ). AlwaysYields next (λ x. x) t (range_with_len k (suc n))) (p.1.2 w) (inclusive (suc n) t (omega (arith, p.1.1)))
    ],
  ),
)

pub YieldsList-from_inclusive : (n : ℕ) (s : RangeInclusive ℕ) → range_inclusive_start s ≡ 0 → range_inclusive_end s ≡ n → range_inclusive_exhausted s ≡ false → YieldsList next (λ x. x) s (range_with_len 0 (suc n))
YieldsList-from_inclusive n s a b c = record { runs = subst (λ (k : ℕ). AlwaysYields next (λ x. x) s (range_with_len k (suc n))) a (inclusive (suc n) s (rw (a, b, c) (omega arith))) }

-- A coalition of n names, and with one name more; sizes of coalitions, one within the other; the count of ones. Assumes nothing.
use mathlib.Core.Path.{◌≡◌, refl, sym, ap, ◌∙◌}
use mathlib.Core.Logic.{◌⊎◌, inl, inr}
use Prim.Native.Nat.{ℕ, zero, suc, ◌+◌, ◌-◌, ◌/◌, ◌%◌, ◌^◌, ◌≤◌, ◌<◌}
use native.Mathlib.Nat.{one-mul, pow-suc, add-zero}
use native.Mathlib.Numerals.{add-one, one-add}
use native.Mathlib.Omega.{arith}
use mathlib.Core.Bool.{Bool, true, false}
use lib.Count.{ones, ones_in, ones_step}
use lib.Dec.{eqb}
use lib.Pow.{high}
use borrow.Author.Tests.{eqb-true}
use Rattle.model.specs.Coalitions.{member, bit, those}
use Rattle.model.specs.Layers.{size}
use Rattle.model.proofs.Packed.{member-zero, member-suc, bits_ext}
use Rattle.model.specs.Meanings.{Subset}
use Rattle.model.proofs.Monotone.{less_keeps, member_past}
use Rattle.model.proofs.Truth.{below_suc, clash}
use Rattle.sperner.proofs.Counts.{count, count_add, count-suc, count_cong}

-- the last name counts where it is a member
pub size-suc : (n c : ℕ) → size (suc n) c ≡ size n c + bit (member n c)
unfolding size
size-suc n c = count-suc (λ i. member i c) n

module _ (n c : ℕ) (h : c < 2 ^ n) where
  -- without the last name
  pub size-without : size (suc n) c ≡ size n c
  size-without = size-suc n c ∙ ap (λ (b : Bool). size n c + bit b) (member_past n c h) ∙ add-zero (size n c)

  pub without_below : c < 2 ^ suc n
  without_below = omega (arith, pow-suc 2 n)

  -- with it
  pub with_below : 2 ^ n + c < 2 ^ suc n
  with_below = omega (arith, pow-suc 2 n)

  with_last : member n (2 ^ n + c) ≡ true
  unfolding member
  with_last = ap (λ (x : ℕ). eqb ((x + c) / 2 ^ n % 2) 1) (sym (one-mul (2 ^ n))) ∙ ap (λ (x : ℕ). eqb (x % 2) 1) (high 1 n h)

  with_others : (i : ℕ) → i < n → member i (2 ^ n + c) ≡ member i c
  with_others i l =
      let e : 2 ^ n + c - 2 ^ n ≡ c = omega arith in
      sym (less_keeps n i (2 ^ n + c) with_last (λ q. omega arith)) ∙ ap (member i) e

  pub size_with : size (suc n) (2 ^ n + c) ≡ suc (size n c)
  unfolding size
  size_with =
      size-suc n (2 ^ n + c) ∙ ap (λ (b : Bool). size n (2 ^ n + c) + bit b) with_last ∙ add-one (size n (2 ^ n + c))
      ∙ ap suc (count_cong (λ i. member i (2 ^ n + c)) (λ i. member i c) n (λ i l. with_others i l))

  -- a coalition is within itself with the name more
  pub subset_with : Subset (suc n) c (2 ^ n + c)
  subset_with i l m = go (below_suc l)
    where
      go : (i < n) ⊎ (i ≡ n) → member i (2 ^ n + c) ≡ true
      go (inl k) = with_others i k ∙ m
      go (inr e) = rw e with_last

-- what is within another stays so, without the name more
pub subset_without : (n b c : ℕ) → b < 2 ^ n → Subset n b c → Subset (suc n) b c
subset_without n b c h s i l m = go (below_suc l)
  where
    go : (i < n) ⊎ (i ≡ n) → member i c ≡ true
    go (inl k) = s i k m
    go (inr e) = absurd (clash m (ap (λ (j : ℕ). member j b) e ∙ member_past n b h))

-- and with it
pub subset_both : (n b c : ℕ) → b < 2 ^ n → c < 2 ^ n → Subset n b c → Subset (suc n) (2 ^ n + b) (2 ^ n + c)
subset_both n b c hb hc s i l m = go (below_suc l)
  where
    go : (i < n) ⊎ (i ≡ n) → member i (2 ^ n + c) ≡ true
    go (inl k) = with_others n c hc i k ∙ s i k (sym (with_others n b hb i k) ∙ m)
    go (inr e) = rw e (with_last n c hc)

-- ---- coalitions of one size

-- the coalitions with k members
abbrev pub of_size : ℕ → ℕ → ℕ → Bool
of_size n k c = eqb (size n c) k

-- a set of coalitions of which none is inside another: two of f of which one is within the other are one
abbrev pub Apart : ℕ → (ℕ → Bool) → Type 0
Apart n f = (b c : ℕ) → b < 2 ^ n → c < 2 ^ n → f b ≡ true → f c ≡ true → Subset n b c → b ≡ c

bit_le : (a b : Bool) → (a ≡ true → b ≡ true) → bit a ≤ bit b
bit_le false b h = omega arith
bit_le true b h = rw (h refl) (omega arith)

bit-same : (a b : Bool) → bit a ≡ bit b → a ≡ b
bit-same true true e = refl
bit-same true false e = absurd (omega arith)
bit-same false true e = absurd (omega arith)
bit-same false false e = refl

-- a coalition within another has no more members
size_le : (n b c : ℕ) → Subset n b c → size n b ≤ size n c
unfolding size those
size_le zero b c s = omega arith
size_le (suc n) b c s =
    omega (arith, size-suc n b, size-suc n c, size_le n b c (λ i l. s i (omega arith)), bit_le (member n b) (member n c) (s n (omega arith)))

-- and if it has as many, it has the same
size_same : (n b c : ℕ) → Subset n b c → size n b ≡ size n c → (i : ℕ) → i < n → member i b ≡ member i c
size_same zero b c s e i l = absurd (omega arith)
size_same (suc n) b c s e i l =
    let less : Subset n b c = λ j m. s j (omega arith) in
    let most = bit_le (member n b) (member n c) (s n (omega arith)) in
    let few = size_le n b c less in
    let here : bit (member n b) ≡ bit (member n c) = omega (arith, size-suc n b, size-suc n c) in
    let rest : size n b ≡ size n c = omega (arith, size-suc n b, size-suc n c) in
    go here (size_same n b c less rest i) (below_suc l)
  where
    go : bit (member n b) ≡ bit (member n c) → (i < n → member i b ≡ member i c) → (i < n) ⊎ (i ≡ n) → member i b ≡ member i c
    go here more (inl k) = more k
    go here more (inr q) = rw q (bit-same (member n b) (member n c) here)

pub one_size_apart : (n k : ℕ) → Apart n (of_size n k)
one_size_apart n k b c hb hc eb ec s = bits_ext n b c hb hc (size_same n b c s (eqb-true (size n b) k eb ∙ sym (eqb-true (size n c) k ec)))

-- ---- the count of ones

digit : (c : ℕ) → bit (member 0 c) ≡ c % 2
digit c = ap bit (member-zero c) ∙ go (c % 2) (omega arith)
  where
    go : (d : ℕ) → d < 2 → bit (eqb d 1) ≡ d
    go zero h = refl
    go (suc zero) h = refl
    go (suc (suc d)) h = absurd (omega arith)

pub ones_size : (n c : ℕ) → c < 2 ^ n → ones c ≡ size n c
unfolding size those ones ones_in
ones_size zero c h = let z : c ≡ 0 = omega arith in rw z
ones_size (suc n) c h =
    let e : 1 + n ≡ suc n = omega arith in
    let first = count-suc (λ i. member i c) 0 in
    let rest : count (λ i. member (1 + i) c) n ≡ size n (c / 2) = count_cong (λ i. member (1 + i) c) (λ i. member i (c / 2)) n (λ i l. ap (λ (j : ℕ). member j c) (one-add i) ∙ member-suc i c) in
    let whole = count_add (λ i. member i c) 1 n in
    let s : size (suc n) c ≡ count (λ i. member i c) (1 + n) = ap (count (λ i. member i c)) (sym e) in
    omega (arith, ones_step c, ones_size n (c / 2) (omega (arith, pow-suc 2 n)), digit c)

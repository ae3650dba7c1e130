-- Words of the coalitions that are marked with one member less, and so the word of the minimal ones. Assumes nothing.
use mathlib.Core.Path.{◌≡◌, refl, sym, ap, ap₂, ◌∙◌, subst}
use mathlib.Core.Bool.{Bool, true, false, not, ◌&&◌, and_comm, and_assoc}
use mathlib.Core.List.{List}
use Prim.Native.Nat.{ℕ, ◌+◌, ◌-◌, ◌*◌, ◌/◌, ◌%◌, ◌^◌, ◌≤◌, ◌<◌}
use native.Mathlib.Nat.{mul_comm, mul_assoc, add-mul, mul-lt-mul_of_pos_right, add_comm, zero-add}
use native.Mathlib.Numerals.{add-one}
use native.Mathlib.Omega.{arith}
use lib.Bits.{bit_and}
use lib.Dec.{leb}
use lib.ListN.{get_or}
use lib.Pow.{pow_mono, pow-add, pow_pos, low}
use borrow.Author.Tests.{eqb-true, le-leb, lt-leb}
use Rattle.model.specs.Coalitions.{member, packed, implies, every}
use Rattle.model.proofs.Truth.{clash, false_of}
use Rattle.model.proofs.Packed.{packed_lt, own_bits, shifted}
use Rattle.model.proofs.Monotone.{member_le}
use Rattle.words.proofs.Packing.{packed_shift, packed_cong, packed-and, packed-not, packed_none, packed_zero, packed_split}
use Rattle.words.proofs.Names.{below_six, high_member, words_full}
use Rattle.short_forms.specs.Listings.{marked, marked_without, irredundant}
use Rattle.short_forms.proofs.Needed.{irredundant_says}

-- the bits f from i on, a places up: below i + a there are none, and those that the k places have no room for are lost
abbrev raised : (ℕ → Bool) → ℕ → ℕ → ℕ → Bool
raised f i a c = leb (i + a) c && f (c - a)

packed-raised : (f : ℕ → Bool) (i a b : ℕ) → packed f i (a + b) * 2 ^ a % 2 ^ (a + b) ≡ packed (raised f i a) i (a + b)
packed-raised f i a b =
    let lost = packed f (i + b) a in
    let kept = packed f i b in
    let whole = 2 ^ (a + b) in
    let split : packed f i (a + b) ≡ kept + 2 ^ b * lost = ap (packed f i) (add_comm a b) ∙ packed_split f i b a in
    let power : 2 ^ b * 2 ^ a ≡ whole = mul_comm (2 ^ b) (2 ^ a) ∙ sym (pow-add 2 a b) in
    let high : 2 ^ b * lost * 2 ^ a ≡ lost * whole = ap (λ (x : ℕ). x * 2 ^ a) (mul_comm (2 ^ b) lost) ∙ mul_assoc lost (2 ^ b) (2 ^ a) ∙ ap (λ (x : ℕ). lost * x) power in
    let parts : packed f i (a + b) * 2 ^ a ≡ lost * whole + kept * 2 ^ a =
    ap (λ (x : ℕ). x * 2 ^ a) split ∙ add-mul kept (2 ^ b * lost) (2 ^ a) ∙ add_comm (kept * 2 ^ a) (2 ^ b * lost * 2 ^ a) ∙ ap (λ (x : ℕ). x + kept * 2 ^ a) high in
    let fits : kept * 2 ^ a < whole = subst (λ (x : ℕ). kept * 2 ^ a < x) power (mul-lt-mul_of_pos_right (packed_lt f i b) (pow_pos a)) in
    let none : packed (raised f i a) i a ≡ 0 = packed_cong (raised f i a) (λ c. false) i a (λ c l m. rw (lt-leb (i + a) c m)) ∙ packed_none i a in
    let some : packed (raised f i a) (i + a) b ≡ kept = packed_shift (raised f i a) f (i + a) i b (λ j l.
    let e : i + a + j - a ≡ i + j = omega arith in
    rw (le-leb (i + a) (i + a + j) (omega arith), e)) in
    ap (λ (x : ℕ). x % whole) parts ∙ low lost (a + b) fits ∙ mul_comm kept (2 ^ a)
    ∙ sym (packed_split (raised f i a) i a b ∙ ap₂ (λ (x y : ℕ). x + 2 ^ a * y) none some ∙ zero-add (2 ^ a * kept))

packed_up : (f : ℕ → Bool) (i a k : ℕ) → a ≤ k → packed f i k * 2 ^ a % 2 ^ k ≡ packed (raised f i a) i k
packed_up f i a k h =
    let e : a + (k - a) ≡ k = omega arith in
    subst (λ (x : ℕ). packed f i x * 2 ^ a % 2 ^ x ≡ packed (raised f i a) i x) e (packed-raised f i a (k - a))

-- a member below 6 is worth 2^i within its word
low_worth : (w c i : ℕ) → 64 * w ≤ c → c < 64 * w + 64 → i < 6 → member i c ≡ true → 64 * w + 2 ^ i ≤ c
unfolding member
low_worth w c i l m h e =
    below_six (λ i. c / 2 ^ i % 2 ≡ 1 → 64 * w + 2 ^ i ≤ c)
    (λ e. omega arith) (λ e. omega arith) (λ e. omega arith) (λ e. omega arith) (λ e. omega arith) (λ e. omega arith)
    i h (eqb-true (c / 2 ^ i % 2) 1 e)

-- the coalitions of word w that have a name i below 6 stand 2^i places further down without it
less_low : (f : ℕ → Bool) (w i : ℕ) → i < 6 → bit_and (packed f (64 * w) 64 * 2 ^ 2 ^ i % 2 ^ 64) (packed (member i) (64 * w) 64) ≡ packed (marked_without i f) (64 * w) 64
unfolding marked_without
less_low f w i h =
    let small : i ≤ 6 = omega arith in
    ap (λ (x : ℕ). bit_and x (packed (member i) (64 * w) 64)) (packed_up f (64 * w) (2 ^ i) 64 (pow_mono small))
    ∙ packed-and (raised f (64 * w) (2 ^ i)) (member i) (64 * w) 64
    ∙ packed_cong (λ c. raised f (64 * w) (2 ^ i) c && member i c) (marked_without i f) (64 * w) 64 (λ c l m. here c l m (member i c) refl)
  where
    here : (c : ℕ) → 64 * w ≤ c → c < 64 * w + 64 → (b : Bool) → member i c ≡ b → (raised f (64 * w) (2 ^ i) c && member i c) ≡ (member i c && f (c - 2 ^ i))
    here c l m true e = rw (e, le-leb (64 * w + 2 ^ i) c (low_worth w c i l m h e)) (and_comm (f (c - 2 ^ i)) true)
    here c l m false e = rw e (and_comm (raised f (64 * w) (2 ^ i) c) false)

-- a name from 6 up, which all coalitions of a word have or none
module _ (w i : ℕ) (h : 6 ≤ i) where
  -- without it they are those of another word
  less_high : (f : ℕ → Bool) → member (i - 6) w ≡ true → packed f (64 * (w - 2 ^ (i - 6))) 64 ≡ packed (marked_without i f) (64 * w) 64
  unfolding marked_without
  less_high f e =
      packed_shift f (marked_without i f) (64 * (w - 2 ^ (i - 6))) (64 * w) 64
      (λ j l.
      let m : member i (64 * w + j) ≡ true = high_member i w (64 * w + j) h (omega arith) (omega arith) ∙ e in
      let q : 64 * (w - 2 ^ (i - 6)) + j ≡ 64 * w + j - 2 ^ i = omega (arith, words_full i h, member_le (i - 6) w e) in
      rw m (ap f q))

  pub less_nowhere : (f : ℕ → Bool) → member (i - 6) w ≡ false → 0 ≡ packed (marked_without i f) (64 * w) 64
  unfolding marked_without
  less_nowhere f e = sym (packed_cong (marked_without i f) (λ c. false) (64 * w) 64 (λ c l m. rw (high_member i w c h l m, e)) ∙ packed_none (64 * w) 64)

-- word w of a table
pub marked_word : (words : List ℕ) (w : ℕ) → get_or words w 0 < 2 ^ 64 → get_or words w 0 ≡ packed (marked words) (64 * w) 64
unfolding marked
marked_word words w h =
    own_bits (get_or words w 0) (64 * w) 64 h
    ∙ packed_cong (λ c. member (c - 64 * w) (get_or words w 0)) (marked words) (64 * w) 64 (λ c l m.
    let r : c - 64 * w ≡ c % 64 = omega arith in
    let q : w ≡ c / 64 = omega arith in
    ap₂ (λ (i j : ℕ). member i (get_or words j 0)) r q)

module _ (words : List ℕ) (w i : ℕ) where
  -- what the code answers at a name below 6: the marks moved up, of the coalitions that have the name
  pub less_moved : (having : ℕ) → i < 6 → get_or words w 0 < 2 ^ 64 → having ≡ packed (member i) (64 * w) 64
      → bit_and (get_or words w 0 * 2 ^ (1 * 2 ^ i % 2 ^ 64) % 2 ^ 64) having ≡ packed (marked_without i (marked words)) (64 * w) 64
  less_moved having h fits e = rw (e, shifted i (omega arith), marked_word words w fits) (less_low (marked words) w i h)

  -- and at a name from 6 up that they have: the marks of another word
  pub less_read : 6 ≤ i → i < 12 → member (i - 6) w ≡ true → get_or words (w - 1 * 2 ^ (i - 6) % 2 ^ 64) 0 < 2 ^ 64
      → get_or words (w - 1 * 2 ^ (i - 6) % 2 ^ 64) 0 ≡ packed (marked_without i (marked words)) (64 * w) 64
  less_read h l m fits =
      let e : 1 * 2 ^ (i - 6) % 2 ^ 64 ≡ 2 ^ (i - 6) = shifted (i - 6) (omega arith) in
      marked_word words (w - 1 * 2 ^ (i - 6) % 2 ^ 64) fits ∙ ap (λ (x : ℕ). packed (marked words) (64 * (w - x)) 64) e ∙ less_high w i h (marked words) m

not-and : (a b : Bool) → not (a && b) ≡ implies a (not b)
not-and true b = refl
not-and false b = refl

module _ (f : ℕ → Bool) (i k : ℕ) where
  pub reduced_none : packed f i k ≡ packed (irredundant 0 f) i k
  unfolding irredundant every
  reduced_none = packed_cong f (irredundant 0 f) i k (λ c l m. and_comm true (f c))

  -- one name more: the coalitions that are marked without it go
  pub reduced_more : (n : ℕ) → bit_and (packed (irredundant n f) i k) (2 ^ k - 1 - packed (marked_without n f) i k) ≡ packed (irredundant (n + 1) f) i k
  unfolding irredundant every marked_without
  reduced_more n =
      ap (bit_and (packed (irredundant n f) i k)) (packed-not (marked_without n f) i k)
      ∙ packed-and (irredundant n f) (λ c. not (marked_without n f c)) i k
      ∙ packed_cong (λ c. irredundant n f c && not (marked_without n f c)) (irredundant (n + 1) f) i k
      (λ c l m. rw (add-one, ← not-and (member n c) (f (c - 2 ^ n))) (and_assoc (f c) (every (λ j. implies (member j c) (not (f (c - 2 ^ j)))) n) (not (member n c && f (c - 2 ^ n)))))

  -- where none are left, no further name brings one back
  pub reduced_empty : (m n : ℕ) → m ≤ n → packed (irredundant m f) i k ≡ 0 → 0 ≡ packed (irredundant n f) i k
  reduced_empty m n h z = sym ((packed_zero (irredundant n f) i k).1 (λ c l u. false_of (irredundant n f c) (λ t.
      let w = (irredundant_says n f c).0 t in
      clash ((irredundant_says m f c).1 (w.0, λ j b. w.1 j (omega arith))) ((packed_zero (irredundant m f) i k).0 z c l u))))

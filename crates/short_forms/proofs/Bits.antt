-- The bits of a word, read off lowest first. Assumes nothing.
use mathlib.Core.Path.{◌≡◌, sym, ap, ap₂, ◌∙◌}
use mathlib.Core.Bool.{Bool, true}
use mathlib.Core.List.{List, [], ◌∷◌, ◌++◌, append-nil}
use Prim.Native.Nat.{ℕ, ◌+◌, ◌-◌, ◌/◌, ◌%◌, ◌^◌, ◌≤◌, ◌<◌}
use native.Mathlib.Decide.{dec_lt}
use native.Mathlib.Omega.{arith}
use lib.Dec.{eqb}
use lib.ListN.{length, length-append}
use lib.Pow.{pow_mono, pow_pos, shr-shr, shr_le}
use Rattle.model.specs.Coalitions.{member, those}
use Rattle.model.proofs.Packed.{own_bits}
use Rattle.model.proofs.Monotone.{member_le, member_past}
use Rattle.model.proofs.Listed.{those_add, those_none, those_one}
use Rattle.words.specs.Evaluation.{LowestMark, LowestBit}
use Rattle.short_forms.specs.Listings.{bits_of}

-- bit j of a number moved a places down
member_moved : (x a j : ℕ) → member j (x / 2 ^ a) ≡ member (a + j) x
unfolding member
member_moved x a j = ap (λ (y : ℕ). eqb (y % 2) 1) (shr-shr x a j)

-- number c stands for bit c - first of the word
abbrev pub bit_at : ℕ → ℕ → ℕ → Bool
bit_at word first c = member (c - first) word

-- the numbers of the bits before c
abbrev pub passed : ℕ → ℕ → ℕ → List ℕ
passed word first c = those (bit_at word first) first (c - first)

-- there are no more than all
pub passed_few : (word first c : ℕ) → c ≤ first + 64 → length (passed word first c) ≤ length (bits_of word first)
unfolding bits_of
passed_few word first c h =
    let e : c - first + (64 - (c - first)) ≡ 64 = omega arith in
    let all = ap (those (bit_at word first) first) (sym e) ∙ those_add (bit_at word first) first (c - first) (64 - (c - first)) in
    omega (arith, simp length-append at (ap length all))

-- r is the lowest bit of what is left of the word from number c on: it is listed next, and what is left then is moved past it
pub record NextBit (word first c rest r : ℕ) : Type 0 where
  pub near : r < 64
  pub below : c + r < first + 64
  pub listed : passed word first (c + r + 1) ≡ passed word first c ++ ((c + r) ∷ [])
  pub left : rest / 2 ^ r / 2 ≡ word / 2 ^ (c + r + 1 - first)

module _ (word first c rest : ℕ) (from : first ≤ c) (moved : rest ≡ word / 2 ^ (c - first)) where
  bit_moved : (j : ℕ) → bit_at word first (c + j) ≡ member j rest
  bit_moved j =
      let e : c + j - first ≡ c - first + j = omega arith in
      ap (λ (k : ℕ). member k word) e ∙ sym (member_moved word (c - first) j) ∙ ap (member j) (sym moved)

  -- nothing is left: all are passed
  pub bits_end : rest ≡ 0 → c ≤ first + 64 → passed word first c ≡ bits_of word first
  unfolding bits_of
  bits_end z h =
      let e : c - first + (64 - (c - first)) ≡ 64 = omega arith in
      let s : first + (c - first) ≡ c = omega arith in
      let none : those (bit_at word first) (first + (c - first)) (64 - (c - first)) ≡ [] = those_none (bit_at word first) (first + (c - first)) (64 - (c - first)) (λ k l m.
      let j : c + (k - c) ≡ k = omega arith in
      ap (bit_at word first) (sym j) ∙ bit_moved (k - c) ∙ ap (member (k - c)) z ∙ member_past (k - c) 0 (pow_pos (k - c))) in
      sym (ap (those (bit_at word first) first) (sym e) ∙ those_add (bit_at word first) first (c - first) (64 - (c - first))
      ∙ ap (λ (l : List ℕ). passed word first c ++ l) none ∙ append-nil (passed word first c))

  pub bits_next : (r : ℕ) → word < 2 ^ 64 → (rest ≡ 0 → ⊥) → LowestBit rest r → NextBit word first c rest r
  bits_next r fits nonzero low = record {
    near = lowest.small;
    below = inside;
    listed =
        ap (those f first) parts ∙ those_add f first (c - first) (r + 1)
        ∙ ap (λ (l : List ℕ). passed word first c ++ l) (ap (λ (k : ℕ). those f k (r + 1)) start ∙ those_add f c r 1 ∙ ap₂ ◌++◌ skipped (those_one f (c + r) set));
    left = ap (λ (x : ℕ). x / 2 ^ r / 2) moved ∙ ap (λ (x : ℕ). x / 2) (shr-shr word (c - first) r) ∙ shr-shr word (c - first + r) 1 ∙ ap (λ (k : ℕ). word / 2 ^ k) place;
  }
    where
      f : ℕ → Bool
      f = bit_at word first

      lowest : LowestMark (λ k. member (k - c) rest) c 64 r
      lowest = low.found (λ k. member (k - c) rest) c (own_bits rest c 64 (omega (arith, moved, shr_le word (c - first)))) nonzero

      told : (j : ℕ) → f (c + j) ≡ member (c + j - c) rest
      told j = let e : j ≡ c + j - c = omega arith in bit_moved j ∙ ap (λ (k : ℕ). member k rest) e

      set : f (c + r) ≡ true
      set = told r ∙ lowest.marked

      skipped : those f c r ≡ []
      skipped = those_none f c r (λ k l m.
          let e : c + (k - c) ≡ k = omega arith in
          ap f (sym e) ∙ told (k - c) ∙ lowest.least (k - c) (omega arith))

      inside : c + r < first + 64
      inside = elim (dec_lt (c + r) (first + 64)) [
        | yes l ↦ l
        | no g ↦ (let h : 64 ≤ c + r - first = omega arith in absurd (omega (arith, member_le (c + r - first) word set, pow_mono h)))
      ]

      parts : c + r + 1 - first ≡ c - first + (r + 1)
      parts = omega arith

      place : c - first + r + 1 ≡ c + r + 1 - first
      place = omega arith

      start : first + (c - first) ≡ c
      start = omega arith

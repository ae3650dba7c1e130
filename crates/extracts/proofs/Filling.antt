-- A half of an extract, filled row by row: the marks of n names from the front, the rest 00 as from 2^n up. Assumes nothing.
use mathlib.Core.Path.{◌≡◌, refl, sym, ap, ap₂, ◌∙◌}
use mathlib.Core.Bool.{Bool, false, ◌&&◌}
use mathlib.Core.List.{List, ◌∷◌, ◌++◌}
use Prim.Native.Nat.{ℕ, zero, suc, ◌+◌, ◌*◌, ◌-◌, ◌^◌, ◌≤◌, ◌<◌}
use native.Mathlib.Decide.{dec_lt}
use native.Mathlib.Nat.{le_of_eq, le_of_lt, zero-add, add-zero, add-suc, suc-add}
use native.Mathlib.Omega.{arith}
use lib.ListN.{length, drop, length-replicate, replicate-append-replicate}
use lib.Seq.{paste, drop_at}
use borrow.Author.Tests.{le-ltb}
use Rattle.model.specs.Sides.{confidentiality, integrity}
use Rattle.model.specs.Coalitions.{Marks, mark, packed}
use Rattle.model.specs.Extracts.{packed_bytes}
use Rattle.model.proofs.Table.{length-packed}
use Rattle.words.specs.declared.Row.{Row}
use Rattle.words.specs.FourWords.{RowAt}
use Rattle.words.specs.Evaluation.{row_count}
use Rattle.words.proofs.Packing.{packed_zero}
use Rattle.words.proofs.Names.{rows_enough, rows_few, rows_most}
use Rattle.extracts.specs.Halves.{little_endian, paste_word, paste_row, blank, Halves}
use Rattle.extracts.proofs.Pasting.{paste_long, paste_after}
use Rattle.extracts.proofs.WordBytes.{length_bytes, marks_bytes}

-- the bytes of the first w words of marks, then 00
unfoldable pub half_to : (ℕ → Bool) → ℕ → List ℕ
half_to f w = packed_bytes f 0 (8 * w) ++ blank (512 - 8 * w)

bytes_append : (f : ℕ → Bool) (j a b : ℕ) → packed_bytes f j (a + b) ≡ packed_bytes f j a ++ packed_bytes f (j + a) b
unfolding packed_bytes
bytes_append f j zero b = rw (zero-add b, add-zero)
bytes_append f j (suc a) b = rw (suc-add, add-suc, ← suc-add) (ap (λ (l : List ℕ). packed f (8 * j) 8 ∷ l) (bytes_append f (suc j) a b))

drop-blank : (a b : ℕ) → drop a (blank (a + b)) ≡ blank b
drop-blank a b = ap (drop a) (sym (replicate-append-replicate a b 0)) ∙ drop_at (blank a) (blank b) a (length-replicate a 0)

-- no mark, no bit
clear : (f : ℕ → Bool) (j k : ℕ) → ((c : ℕ) → 8 * j ≤ c → c < 8 * (j + k) → f c ≡ false) → packed_bytes f j k ≡ blank k
unfolding packed_bytes
clear f j zero h = refl
clear f j (suc k) h =
    ap₂ (λ (x : ℕ) (l : List ℕ). x ∷ l) ((packed_zero f (8 * j) 8).1 (λ c a b. h c a (omega arith))) (clear f (suc j) k (λ c a b. h c (omega arith) (omega arith)))

module _ (f : ℕ → Bool) where
  pub half_start : blank 512 ≡ half_to f 0
  unfolding half_to packed_bytes
  half_start = refl

  word_bytes : (w : ℕ) → little_endian 8 (packed f (64 * w) 64) ≡ packed_bytes f (0 + 8 * w) 8
  word_bytes w =
      let e : 64 * w ≡ 8 * (0 + 8 * w) = omega arith in
      ap (λ (i : ℕ). little_endian 8 (packed f i 64)) e ∙ marks_bytes f (0 + 8 * w) 8

  -- one word more
  pub half_more : (w : ℕ) → w < 64 → paste (half_to f w) (8 * w) (little_endian 8 (packed f (64 * w) 64)) 8 ≡ half_to f (w + 1)
  unfolding half_to
  half_more w h =
      let k : 8 * w + 8 ≡ 8 * (w + 1) = omega arith in
      let z : 512 - 8 * w ≡ 8 + (512 - 8 * (w + 1)) = omega arith in
      paste_after (packed_bytes f 0 (8 * w)) (blank (512 - 8 * w)) (little_endian 8 (packed f (64 * w) 64)) (8 * w) 8 (length-packed f 0 (8 * w)) (length_bytes 8 (packed f (64 * w) 64))
      ∙ ap₂ (λ (l m : List ℕ). l ++ m)
      (ap (λ (l : List ℕ). packed_bytes f 0 (8 * w) ++ l) (word_bytes w) ∙ sym (bytes_append f 0 (8 * w) 8) ∙ ap (packed_bytes f 0) k)
      (ap (λ (i : ℕ). drop 8 (blank i)) z ∙ drop-blank 8 (512 - 8 * (w + 1)))

-- word w is put into a half
module _ (half next : List ℕ) (w word : ℕ) (h : w < 64) (put : next ≡ paste_word half w word) where
  pub word_length : length half ≡ 512 → length next ≡ 512
  word_length e = paste_long half next (8 * w) 8 (little_endian 8 word) (omega arith) (le_of_eq (sym (length_bytes 8 word))) put ∙ e

  word_half : (f : ℕ → Bool) → word ≡ packed f (64 * w) 64 → half ≡ half_to f w → next ≡ half_to f (w + 1)
  word_half f e i = put ∙ ap₂ (λ (l : List ℕ) (x : ℕ). paste l (8 * w) (little_endian 8 x) 8) i e ∙ half_more f w h

-- a turn of the loop: row g is put into a half
module _ (half next : List ℕ) (g : ℕ) (row : Row) (h : g < 16) (put : next ≡ paste_row half g row) where
  pub turn_length : length half ≡ 512 → length next ≡ 512
  turn_length e =
      word_length _ next (4 * g + 3) row.d (omega arith) put
      (word_length _ _ (4 * g + 2) row.c (omega arith) refl (word_length _ _ (4 * g + 1) row.b (omega arith) refl (word_length half _ (4 * g) row.a (omega arith) refl e)))

  pub turn_half : (f : ℕ → Bool) → RowAt f g row → half ≡ half_to f (4 * g) → next ≡ half_to f (4 * (g + 1))
  turn_half f r i =
      let one : 4 * g + 0 ≡ 4 * g = omega arith in
      let two : 4 * g + 1 + 1 ≡ 4 * g + 2 = omega arith in
      let three : 4 * g + 2 + 1 ≡ 4 * g + 3 = omega arith in
      let end : 4 * g + 3 + 1 ≡ 4 * (g + 1) = omega arith in
      let a = word_half half _ (4 * g) row.a (omega arith) refl f (rw one at (r.word 0 (omega arith))) i in
      let b = word_half _ _ (4 * g + 1) row.b (omega arith) refl f (r.word 1 (omega arith)) a in
      let c = word_half _ _ (4 * g + 2) row.c (omega arith) refl f (r.word 2 (omega arith)) (b ∙ ap (half_to f) two) in
      word_half _ next (4 * g + 3) row.d (omega arith) put f (r.word 3 (omega arith)) (c ∙ ap (half_to f) three) ∙ ap (half_to f) end

-- no coalition of n names stands past their rows, or these fill the half
past_rows : (n c : ℕ) → 256 * row_count n ≤ c → c < 4096 → 2 ^ n ≤ c
past_rows n c a b = elim (dec_lt 12 n) [
  | yes l ↦ absurd (omega (arith, rows_most n (le_of_lt l)))
  | no l ↦ omega (arith, rows_enough n (omega arith))
]

-- all rows of n names: from 2^n up all bits are clear
pub half_end : (n : ℕ) (f : ℕ → Bool) → half_to (mark n f) (4 * row_count n) ≡ packed_bytes (mark n f) 0 512
unfolding half_to mark
half_end n f =
    let w = 4 * row_count n in
    let few = rows_few n in
    let k : 8 * w + (512 - 8 * w) ≡ 512 = omega arith in
    ap (λ (l : List ℕ). packed_bytes (mark n f) 0 (8 * w) ++ l)
    (sym (clear (mark n f) (0 + 8 * w) (512 - 8 * w) (λ c a b. ap (λ (t : Bool). t && f c) (le-ltb c (2 ^ n) (past_rows n c (omega arith) (omega arith))))))
    ∙ sym (bytes_append (mark n f) 0 (8 * w) (512 - 8 * w)) ∙ ap (packed_bytes (mark n f) 0) k

-- both halves with the marks of the first g rows
pub record Filled (n : ℕ) (S : Marks) (g : ℕ) (see change : List ℕ) : Type 0 where
  pub see_half : see ≡ half_to (mark n (S confidentiality)) (4 * g)
  pub change_half : change ≡ half_to (mark n (S integrity)) (4 * g)

pub filled_start : (n : ℕ) (S : Marks) (see change : List ℕ) → see ≡ blank 512 → change ≡ blank 512 → Filled n S 0 see change
filled_start n S see change a b = record {
  see_half = a ∙ half_start (mark n (S confidentiality));
  change_half = b ∙ half_start (mark n (S integrity));
}

pub filled_end : (n : ℕ) (S : Marks) (g : ℕ) (see change : List ℕ) → g ≡ row_count n → Filled n S g see change → Halves n S see change
filled_end n S g see change e f = record {
  see_half = f.see_half ∙ ap (λ (k : ℕ). half_to (mark n (S confidentiality)) (4 * k)) e ∙ half_end n (S confidentiality);
  change_half = f.change_half ∙ ap (λ (k : ℕ). half_to (mark n (S integrity)) (4 * k)) e ∙ half_end n (S integrity);
}

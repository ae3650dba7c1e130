-- The first refuter, one row after another. Assumes nothing.
use mathlib.Core.Path.{◌≡◌, refl, sym, ap, ap₂, ◌∙◌}
use Rattle.std.specs.Prelude.{Option, Some, None}
use mathlib.Core.Bool.{Bool, true, false, ◌&&◌}
use Prim.Native.Nat.{ℕ, ◌+◌, ◌-◌, ◌*◌, ◌%◌, ◌^◌, ◌≤◌, ◌<◌}
use native.Mathlib.Nat.{sub-zero, zero-add}
use native.Mathlib.Decide.{ℕ_discrete, dec_lt}
use native.Mathlib.Omega.{arith}
use Rattle.model.specs.Sides.{Side, confidentiality, integrity}
use Rattle.model.specs.Coalitions.{member, Marks, Lowest, nowhere, at, lowest, packed}
use Rattle.model.specs.Terms.{Term}
use Rattle.model.specs.Questions.{holds, refuted, refutes, ground, judge}
use Rattle.model.proofs.Truth.{clash}
use Rattle.model.proofs.Search.{lowest_nowhere, lowest_at, lowest_cong}
use Rattle.model.proofs.Packed.{own_bits, member-packed}
use Rattle.words.specs.declared.Row.{Row}
use Rattle.words.specs.declared.Rows.{Rows}
use Rattle.words.specs.FourWords.{word_in, side_of, RowAt, RowsAt, same_row, empty_row}
use Rattle.words.specs.Evaluation.{job_of, row_count, LowestMark, LowestBit}
use Rattle.words.proofs.Names.{rows_few_of}
use Rattle.words.proofs.Packing.{packed_zero}
use Rattle.words.proofs.FourWords.{row_none, row_empty, empty_row_lem, empty_words, rows_of, rows_cong}
use Rattle.words.proofs.Searches.{lowest_kept, lowest_past, lowest_found, lowest-zero, lowest_all}
use Rattle.questions.specs.declared.Relation.{Relation}
use Rattle.questions.specs.declared.Refuter.{Refuter}
use Rattle.questions.specs.Searching.{verdict_of, from_of, to_of, judge_of, opposed_of, refuters_of, lowest_bit, first_of, raised, lowest_in, placed, see_only, still_of, still_rows, later_of, further_of, found_to, Deciding}
use Rattle.questions.proofs.Refuting.{refuters_are}

-- the number of the lowest bit is 64 at most
pub lowest_small : (x r : ℕ) → x < 2 ^ 64 → LowestBit x r → r ≤ 64
lowest_small x r h b = elim (ℕ_discrete x 0) [
  | yes z ↦ omega (arith, b.none z)
  | no nz ↦ omega (arith, (b.found (λ j. member (j - 0) x) 0 (own_bits x 0 64 h) nz).small)
]

-- the code's lowest bit is the lowest that is set
pub lowest-bit : (x r : ℕ) → x < 2 ^ 64 → LowestBit x r → (x ≡ 0 → ⊥) → lowest_bit x ≡ at r
lowest-bit x r h b nonzero =
    let m = b.found (λ j. member (j - 0) x) 0 (own_bits x 0 64 h) nonzero in
    lowest_cong (λ j. member j x) (λ j. member (j - 0) x) 64 (λ j _. rw sub-zero) ∙ lowest_found (λ j. member (j - 0) x) 0 64 r (lowest-zero _) m ∙ ap at (zero-add r)

-- ---- the lowest of a row

raised-raised : (i k : ℕ) (l : Lowest) → raised i (raised k l) ≡ raised (i + k) l
raised-raised i k nowhere = refl
raised-raised i k (at j) = let e : i + (k + j) ≡ i + k + j = omega arith in ap at e

module _ (f : ℕ → Bool) where
  -- none is below i, and the lowest bit of a word of 64 marks from there is the lowest mark
  word_lowest : (i x : ℕ) → lowest f i ≡ nowhere → x ≡ packed f i 64 → raised i (lowest_bit x) ≡ lowest f (i + 64)
  word_lowest i x clear e = ap (λ (y : ℕ). raised i (lowest_bit y)) e ∙ by (lowest_bit (packed f i 64)) refl
    where
      by : (a : Lowest) → lowest_bit (packed f i 64) ≡ a → raised i a ≡ lowest f (i + 64)
      by nowhere h =
          let none : packed f i 64 ≡ 0 =
          (packed_zero f i 64).1 (λ c l m.
          let j : i + (c - i) ≡ c = omega arith in
          ap f (sym j) ∙ sym (member-packed f i 64 (c - i) (omega arith)) ∙ (lowest_nowhere (λ k. member k (packed f i 64)) 64).0 h (c - i) (omega arith)) in
          sym (lowest_past f i 64 clear none)
      by (at j) h =
          let l = (lowest_at (λ k. member k (packed f i 64)) 64 j).0 h in
          let m : LowestMark f i 64 j = record {
            small = l.below;
            marked = sym (member-packed f i 64 j l.below) ∙ l.there;
            least = λ k b. sym (member-packed f i 64 k (omega (arith, l.below))) ∙ l.before k b;
          } in
          sym (lowest_found f i 64 j clear m)

  -- what is found below i + t, or else below i + k
  first_of_lem : (i t k : ℕ) (l m : Lowest) → t ≤ k → raised i l ≡ lowest f (i + t) → (lowest f (i + t) ≡ nowhere → raised i m ≡ lowest f (i + k)) → raised i (first_of l m) ≡ lowest f (i + k)
  first_of_lem i t k nowhere m h e next = next (sym e)
  first_of_lem i t k (at j) m h e next = sym (lowest_kept f (i + t) (i + k) (i + j) (sym e) (omega arith))

  -- none is below row g, and the lowest of the row is the lowest
  pub placed-lowest : (g : ℕ) (x : Row) → g < 16 → lowest f (256 * g) ≡ nowhere → RowAt f g x → placed g (lowest_in x) ≡ lowest f (256 * (g + 1))
  placed-lowest g x below clear r =
      let first : 256 * (g % 16) ≡ 256 * g = omega arith in
      let end : 256 * g + 256 ≡ 256 * (g + 1) = omega arith in
      rw (first, ← end)
      (first_of_lem (256 * g) 64 256 (lowest_bit x.a) after_first (omega arith) (word_lowest (256 * g) x.a clear (word 0 (256 * g) (omega arith) (omega arith))) (λ clear.
      first_of_lem (256 * g) 128 256 (raised 64 (lowest_bit x.b)) after_second (omega arith) (word_at 64 128 x.b clear (word 1 (256 * g + 64) (omega arith) (omega arith)) (omega arith)) (λ clear.
      first_of_lem (256 * g) 192 256 (raised 128 (lowest_bit x.c)) (raised 192 (lowest_bit x.d)) (omega arith) (word_at 128 192 x.c clear (word 2 (256 * g + 128) (omega arith) (omega arith)) (omega arith)) (λ clear.
      word_at 192 256 x.d clear (word 3 (256 * g + 192) (omega arith) (omega arith)) (omega arith)))))
    where
      after_second : Lowest
      after_second = first_of (raised 128 (lowest_bit x.c)) (raised 192 (lowest_bit x.d))

      after_first : Lowest
      after_first = first_of (raised 64 (lowest_bit x.b)) after_second

      word : (j i : ℕ) → j < 4 → 64 * (4 * g + j) ≡ i → word_in x j ≡ packed f i 64
      word j i h e = r.word j h ∙ ap (λ (k : ℕ). packed f k 64) e

      word_at : (t k y : ℕ) → lowest f (256 * g + t) ≡ nowhere → y ≡ packed f (256 * g + t) 64 → 256 * g + t + 64 ≡ 256 * g + k → raised (256 * g) (raised t (lowest_bit y)) ≡ lowest f (256 * g + k)
      word_at t k y clear e h = raised-raised (256 * g) t (lowest_bit y) ∙ word_lowest (256 * g + t) y clear e ∙ ap (lowest f) h

-- ---- the cases of the code

no_bit : (x : ℕ) → x ≡ 0 → lowest_bit x ≡ nowhere
unfolding lowest member
no_bit x e = ap lowest_bit e

module _ (x : Row) (r : ℕ) where
  pub first_word : lowest_bit x.a ≡ at r → lowest_in x ≡ at r
  first_word e = rw e

  pub second_word : x.a ≡ 0 → lowest_bit x.b ≡ at r → lowest_in x ≡ at (64 + r)
  second_word z e = rw (no_bit x.a z, e)

  pub third_word : x.a ≡ 0 → x.b ≡ 0 → lowest_bit x.c ≡ at r → lowest_in x ≡ at (128 + r)
  third_word y z e = rw (no_bit x.a y, no_bit x.b z, e)

  pub no_word : x.a ≡ 0 → x.b ≡ 0 → x.c ≡ 0 → x.d ≡ 0 → lowest_in x ≡ nowhere
  no_word w y z v = rw (no_bit x.a w, no_bit x.b y, no_bit x.c z, no_bit x.d v)

  pub fourth_word : x.a ≡ 0 → x.b ≡ 0 → x.c ≡ 0 → lowest_bit x.d ≡ at r → lowest_in x ≡ at (192 + r)
  fourth_word w y z e = rw (no_bit x.a w, no_bit x.b y, no_bit x.c z, e)

empty_nowhere : (x : Row) → empty_row x ≡ true → lowest_in x ≡ nowhere
empty_nowhere x e =
    let z = empty_words x e in
    rw (no_bit x.a (z 0 (omega arith)), no_bit x.b (z 1 (omega arith)), no_bit x.c (z 2 (omega arith)), no_bit x.d (z 3 (omega arith)))

-- the rows of those that can still decide
pub still_rows_lem : (found : Option Refuter) (f : Marks) (g : ℕ) (both r : Rows) → RowsAt f g both → r ≡ still_rows found both → RowsAt (still_of found f) g r
still_rows_lem None f g both r h e = rw e h
still_rows_lem (Some x) f g both r h e = rw e (rows_of g (see_only f) both.see (same_row 0) (h.row confidentiality) (row_none g))

-- on the see side all can
pub see_still : (R : Marks) (found : Option Refuter) (g : ℕ) (x : Row) → RowAt (still_of found R confidentiality) g x → RowAt (R confidentiality) g x
see_still R None g x e = e
see_still R (Some r) g x e = e

-- ---- the verdict before a row, and after it

-- none is below a row that is empty, and none after it
row_clear : (f : ℕ → Bool) (g : ℕ) (x : Row) → lowest f (256 * g) ≡ nowhere → RowAt f g x → empty_row x ≡ true → lowest f (256 * (g + 1)) ≡ nowhere
row_clear f g x e r z = (lowest_nowhere f (256 * (g + 1))).1 (λ c h. elim (dec_lt c (256 * g)) [
  | yes l ↦ (lowest_nowhere f (256 * g)).0 e c l
  | no l ↦ row_empty f g x r z c (omega arith) (omega arith)
])

module _ (R : Marks) (g : ℕ) where
  -- the see side is clear after the row if it is clear in it
  pub see_clear : (x : Row) → lowest (R confidentiality) (256 * g) ≡ nowhere → RowAt (R confidentiality) g x → empty_row x ≡ true → lowest (R confidentiality) (256 * (g + 1)) ≡ nowhere
  see_clear = row_clear (R confidentiality) g

  -- what was found before the row, and the first in it, are the first
  pub further_is : (left : Rows) (found : Option Refuter) → g < 16 → Deciding R found g left → further_of found g (lowest_in left.see) (lowest_in left.change) ≡ found_to R (256 * (g + 1))
  further_is left None below d =
      let none = none_yet (lowest (R confidentiality) (256 * g)) (lowest (R integrity) (256 * g)) d.clear d.so_far in
      rw (placed-lowest (R confidentiality) g left.see below d.clear (d.rows.row confidentiality), placed-lowest (R integrity) g left.change below none (d.rows.row integrity))
      (first (lowest (R confidentiality) (256 * (g + 1))) (lowest (R integrity) (256 * (g + 1))))
    where
      none_yet : (a b : Lowest) → a ≡ nowhere → holds ≡ ground a b → b ≡ nowhere
      none_yet (at c) b e h = cc
      none_yet nowhere nowhere e h = refl
      none_yet nowhere (at c) e h = cc

      first : (a b : Lowest) → later_of a b holds ≡ ground a b
      first (at c) b = refl
      first nowhere (at c) = refl
      first nowhere nowhere = refl
  further_is left (Some r) below d =
      let kept = found_yet (lowest (R confidentiality) (256 * g)) (lowest (R integrity) (256 * g)) (side_of r.side) r.coalition d.clear d.so_far in
      let later = lowest_kept (R integrity) (256 * g) (256 * (g + 1)) r.coalition kept.0 (omega arith) in
      let empty : lowest_in left.change ≡ nowhere = empty_nowhere left.change (empty_row_lem (λ c. false) g left.change (d.rows.row integrity) (λ c _ _. refl)) in
      rw (placed-lowest (R confidentiality) g left.see below d.clear (d.rows.row confidentiality), empty, kept.1, later)
      (first (lowest (R confidentiality) (256 * (g + 1))))
    where
      found_yet : (a b : Lowest) (s : Side) (c : ℕ) → a ≡ nowhere → refuted s c ≡ ground a b → (b ≡ at c) × (s ≡ integrity)
      found_yet (at d) b s c e h = (cc, cc)
      found_yet nowhere nowhere s c e h = (cc, cc)
      found_yet nowhere (at d) s c e h = (cc, cc)

      first : (a : Lowest) → later_of a nowhere (refuted integrity r.coalition) ≡ ground a (at r.coalition)
      first (at d) = refl
      first nowhere = refl

-- before the first row
pub found_none : (R : Marks) → holds ≡ found_to R (256 * 0)
found_none R = rw (lowest-zero (R confidentiality), lowest-zero (R integrity))

-- a ground on the see side, in row g, is the verdict whatever follows
pub found_see : (R : Marks) (g : ℕ) (x : Row) (m : ℕ) → RowAt (R confidentiality) g x → empty_row x ≡ false → 256 * (g + 1) ≤ m → found_to R (256 * (g + 1)) ≡ found_to R m
found_see R g x m r some h = by (lowest (R confidentiality) (256 * (g + 1))) refl
  where
    f : ℕ → Bool
    f = R confidentiality

    by : (a : Lowest) → lowest f (256 * (g + 1)) ≡ a → found_to R (256 * (g + 1)) ≡ found_to R m
    by (at c) e = rw (e, lowest_kept f (256 * (g + 1)) m c e h)
    by nowhere e = absurd (clash (empty_row_lem f g x r (λ c low high. (lowest_nowhere f (256 * (g + 1))).0 e c (omega arith))) some)

-- all rows of a job searched
module _ (relation : Relation) (n : ℕ) (S : Marks) (p q : Term) where
  pub found_all : found_to (refuters_of relation n S p q) (256 * row_count n) ≡ judge_of relation (job_of n) S p q
  unfolding judge
  found_all =
      let R : Marks = refutes S (from_of relation p q) (to_of relation p q) in
      let k : 256 * row_count (job_of n) ≡ 256 * row_count n = ap (λ (x : ℕ). 256 * x) (rows_few_of n) in
      rw (← k) (ap₂ ground (lowest_all (job_of n) (R confidentiality) (omega arith)) (lowest_all (job_of n) (R integrity) (omega arith)))

  -- the rows of those that can still decide and are sound
  pub deciding_rows : (found : Option Refuter) (g : ℕ) (left : Rows) → g < 16 → RowsAt (λ s c. still_of found (opposed_of relation n p q) s c && S s c) g left
      → RowsAt (still_of found (refuters_of relation n S p q)) g left
  deciding_rows None g left below h = rows_cong g _ _ left (λ s c _ l. refuters_are relation n S p q s c (omega arith)) h
  deciding_rows (Some r) g left below h = rows_cong g _ _ left (elim [
    | confidentiality ↦ λ c _ l. refuters_are relation n S p q confidentiality c (omega arith)
    | integrity ↦ λ c _ l. refl
  ]) h

  -- the row once its sound ones are left
  pub deciding_at : (found : Option Refuter) (g : ℕ) (left : Rows) → g < 16 → lowest (refuters_of relation n S p q confidentiality) (256 * g) ≡ nowhere → verdict_of found ≡ found_to (refuters_of relation n S p q) (256 * g)
      → RowsAt (λ s c. still_of found (opposed_of relation n p q) s c && S s c) g left → Deciding (refuters_of relation n S p q) found g left
  deciding_at found g left below clear so_far rows = record { clear = clear; so_far = so_far; rows = deciding_rows found g left below rows }

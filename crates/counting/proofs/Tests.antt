-- Rows of the coalitions that bar a grant from counting. Assumes nothing.
use mathlib.Core.Path.{◌≡◌, refl, sym, ap, ◌∙◌}
use mathlib.Core.Bool.{Bool, true, false, true≢false, not, ◌&&◌, ◌||◌, and-false, or-false}
use Prim.Native.Nat.{ℕ, ◌+◌, ◌*◌, ◌^◌, ◌<◌}
use native.Mathlib.Nat.{add-zero}
use native.Mathlib.Omega.{arith}
use lib.Bits.{bit_and, bit_or}
use lib.Dec.{ltb}
use Rattle.model.specs.Sides.{confidentiality, integrity}
use Rattle.model.specs.Coalitions.{Marks, mark}
use Rattle.model.specs.Grants.{GrantMarks}
use Rattle.words.specs.declared.Row.{Row}
use Rattle.words.specs.declared.Rows.{Rows}
use Rattle.words.specs.FourWords.{row_on, RowAt, RowsAt, each_word, lacks, lacks_word, empty_row}
use Rattle.words.specs.Evaluation.{job_of}
use Rattle.words.proofs.FourWords.{row_cong, row_both, row_either, row_lacks, row_empty}
use Rattle.words.proofs.Names.{few_coalitions}
use Rattle.words.proofs.Packing.{packed_shift}
use Rattle.counting.specs.Counted.{hides, breaks_some, bars_counting, joined_by}

-- those that see L and not the grant's label d, or change d and not L
module _ (L d : Marks) (g : ℕ) (under own : Rows) (a : RowsAt L g under) (b : RowsAt d g own) where
  unseen : RowAt (lacks (L confidentiality) (d confidentiality)) g (each_word lacks_word under.see own.see)
  unseen = row_lacks g _ _ _ _ (a.row confidentiality) (b.row confidentiality)

  pub hidden_row : (r : Row) → r ≡ each_word bit_or (each_word lacks_word under.see own.see) (each_word lacks_word own.change under.change) → RowAt (hides L d) g r
  unfolding hides
  hidden_row r e = rw e (row_either g _ _ _ _ unseen (row_lacks g _ _ _ _ (b.row integrity) (a.row integrity)))

-- those that hold p and not q on a side
pub lacking_row : (d : GrantMarks) (g : ℕ) (p q : Rows) (r : Row) → RowsAt d.p g p → RowsAt d.q g q
    → r ≡ each_word bit_or (each_word lacks_word p.see q.see) (each_word lacks_word p.change q.change) → RowAt (breaks_some d) g r
unfolding breaks_some
lacking_row d g p q r a b e =
    rw e (row_either g _ _ _ _ (row_lacks g _ _ _ _ (a.row confidentiality) (b.row confidentiality)) (row_lacks g _ _ _ _ (a.row integrity) (b.row integrity)))

-- what holds the voice of q breaks no grant of q
voiced : (d a b x y : Bool) → (d && not (b && y)) ≡ false → (d && ((a && not b) || (x && not y))) ≡ false
voiced false a b x y e = refl
voiced true a false x y e = absurd (true≢false e)
voiced true a true x false e = absurd (true≢false e)
voiced true a true x true e = rw (and-false a, and-false x)

module _ (L : Marks) (d : GrantMarks) (g : ℕ) (own : Rows) (b : RowsAt d.label g own) where
  -- where none changes the grant's label, those that see L and not the grant's label are all that bar the grant
  pub bars_unseen : (under : Rows) (r : Row) → RowsAt L g under → r ≡ each_word lacks_word under.see own.see → empty_row own.change ≡ true → RowAt (bars_counting L d) g r
  unfolding hides bars_counting
  bars_unseen under r a e none =
      rw e (row_cong g _ _ _ (λ c low high.
      rw (row_empty (d.label integrity) g own.change (b.row integrity) none c low high) (sym (or-false _ ∙ or-false _))) (unseen L d.label g under own a b))

  -- where all that change it hold the voice of q, those that hide the grant are
  pub bars_hidden : (q : Rows) (r : Row) → RowsAt d.q g q → RowAt (hides L d.label) g r → empty_row (each_word lacks_word own.change (each_word bit_and q.see q.change)) ≡ true
      → RowAt (bars_counting L d) g r
  unfolding breaks_some bars_counting
  bars_hidden q r h hidden none =
      row_cong g _ _ _ (λ c low high.
      let said = row_empty _ g _ (row_lacks g _ _ _ _ (b.row integrity) (row_both g _ _ _ _ (h.row confidentiality) (h.row integrity))) none c low high in
      rw (voiced (d.label integrity c) (d.p confidentiality c) (d.q confidentiality c) (d.p integrity c) (d.q integrity c) said) (sym (or-false _))) hidden

  -- and else with those that change it and break the grant
  pub bars_row : (hidden lacking r : Row) → RowAt (hides L d.label) g hidden → RowAt (breaks_some d) g lacking
      → r ≡ each_word bit_or hidden (each_word bit_and own.change lacking) → RowAt (bars_counting L d) g r
  unfolding bars_counting
  bars_row hidden lacking r h l e = rw e (row_either g _ _ _ _ h (row_both g _ _ _ _ (b.row integrity) l))

-- asked no rows further on, the p is the grant's own
pub none_further : (L : Marks) (d : GrantMarks) (c : ℕ) → bars_counting L (joined_by (256 * 0) d) c ≡ bars_counting L d c
unfolding breaks_some bars_counting
none_further L d c = rw add-zero

-- a row some rows further on is that of what is asked of so many coalitions more
row_further : (f : ℕ → Bool) (g more : ℕ) (x : Row) → RowAt f (g + more) x → RowAt (λ c. f (c + 256 * more)) g x
row_further f g more x r = record {
  word = λ j l. r.word j l ∙ packed_shift f (λ c. f (c + 256 * more)) (64 * (4 * (g + more) + j)) (64 * (4 * g + j)) 64
      (λ k _. let e : 64 * (4 * (g + more) + j) + k ≡ 64 * (4 * g + j) + k + 256 * more = omega arith in ap f e);
}

pub rows_further : (f : Marks) (g more : ℕ) (x : Rows) → RowsAt f (g + more) x → RowsAt (λ s c. f s (c + 256 * more)) g x
rows_further f g more x r = record { row = λ s. row_further (f s) g more (row_on x s) (r.row s) }

-- the mask leaves the coalitions of n names, and where there are none it is not needed
module _ (n g : ℕ) (f : ℕ → Bool) (x : Row) (r : RowAt f g x) where
  pub marked_none : empty_row x ≡ true → RowAt (mark n f) g x
  unfolding mark
  marked_none e = row_cong g f (mark n f) x (λ c low high. let z = row_empty f g x r e c low high in rw z (sym (and-false (ltb c (2 ^ n))))) r

  pub marked_row : (mask y : Row) → RowAt (λ c. ltb c (2 ^ n)) g mask → y ≡ each_word bit_and mask x → RowAt (mark n f) g y
  unfolding mark
  marked_row mask y m e = rw e (row_both g _ _ _ _ m r)

-- in the rows that a job has, the coalitions of n names are those of the job
pub marked_job : (n g : ℕ) (f : ℕ → Bool) (x : Row) → g < 16 → RowAt (mark n f) g x → RowAt (mark (job_of n) f) g x
unfolding mark
marked_job n g f x h r = row_cong g (mark n f) (mark (job_of n) f) x (λ c _ high. ap (λ (b : Bool). b && f c) (few_coalitions n c (omega arith))) r

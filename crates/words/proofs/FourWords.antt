-- The laws of rows: which coalitions a row has, word by word. Each over the word's place in the row. Assumes nothing.
use mathlib.Core.Path.{◌≡◌, refl, sym, ap₂, ◌∙◌, subst}
use mathlib.Core.Bool.{Bool, true, false, not, ◌&&◌, ◌||◌, true≢false}
use Prim.Native.Nat.{ℕ, zero, suc, ◌+◌, ◌-◌, ◌*◌, ◌/◌, ◌≤◌, ◌<◌}
use native.Mathlib.Omega.{arith}
use lib.Bits.{bit_and, bit_or, or_add_and, and_le_l, and_le_r}
use borrow.Author.Tests.{eq-eqb, eqb-true}
use Rattle.model.specs.Sides.{Side, confidentiality, integrity}
use Rattle.model.specs.Coalitions.{Marks, packed, Lowest, nowhere, at, lowest}
use Rattle.model.proofs.Truth.{clash, or_elim}
use Rattle.model.proofs.Search.{lowest_nowhere, lowest_at}
use Rattle.words.specs.declared.Row.{Row}
use Rattle.words.specs.declared.Rows.{Rows}
use Rattle.words.specs.FourWords.{word_in, row_on, RowAt, RowsAt, each_word, each_row, lacks, lacks_word, same_row, same_rows, empty_row, empty_rows}
use Rattle.words.proofs.Packing.{packed_cong, packed-and, packed-or, packed-lacks, packed_none, packed_all, packed_zero}

-- what holds of 0 to 3
pub below_four : (P : ℕ → Type 0) → P 0 → P 1 → P 2 → P 3 → (j : ℕ) → j < 4 → P j
below_four P a b c d zero h = a
below_four P a b c d (suc zero) h = b
below_four P a b c d (suc (suc zero)) h = c
below_four P a b c d (suc (suc (suc zero))) h = d
below_four P a b c d (suc (suc (suc (suc j)))) h = absurd (omega arith)

-- the words of an operation on two rows, of one word four times, and of both sides
pub each_in : (op : ℕ → ℕ → ℕ) (x y : Row) (j : ℕ) → word_in (each_word op x y) j ≡ op (word_in x j) (word_in y j)
each_in op x y zero = refl
each_in op x y (suc zero) = refl
each_in op x y (suc (suc zero)) = refl
each_in op x y (suc (suc (suc j))) = refl

pub same_in : (x j : ℕ) → word_in (same_row x) j ≡ x
same_in x zero = refl
same_in x (suc zero) = refl
same_in x (suc (suc zero)) = refl
same_in x (suc (suc (suc j))) = refl

pub each_on : (op : ℕ → ℕ → ℕ) (x y : Rows) (s : Side) → row_on (each_row op x y) s ≡ each_word op (row_on x s) (row_on y s)
each_on op x y confidentiality = refl
each_on op x y integrity = refl

pub same_on : (x : ℕ) (s : Side) → row_on (same_rows x) s ≡ same_row x
same_on x confidentiality = refl
same_on x integrity = refl

-- ---- one row

module _ (g : ℕ) where
  -- four words that are words of f
  pub row_words : (f : ℕ → Bool) (a b c d : ℕ) → a ≡ packed f (64 * (4 * g + 0)) 64 → b ≡ packed f (64 * (4 * g + 1)) 64 → c ≡ packed f (64 * (4 * g + 2)) 64 → d ≡ packed f (64 * (4 * g + 3)) 64
      → RowAt f g (record { a = a; b = b; c = c; d = d })
  row_words f a b c d p q r s = record { word = below_four (λ j. word_in (record { a = a; b = b; c = c; d = d }) j ≡ packed f (64 * (4 * g + j)) 64) p q r s }

  -- the same word four times
  pub row_same : (f : ℕ → Bool) (x : ℕ) → ((j : ℕ) → j < 4 → x ≡ packed f (64 * (4 * g + j)) 64) → RowAt f g (same_row x)
  row_same f x e = record { word = λ j h. same_in x j ∙ e j h }

  pub row_none : RowAt (λ c. false) g (same_row 0)
  row_none = row_same (λ c. false) 0 (λ j _. sym (packed_none (64 * (4 * g + j)) 64))

  pub row_all : RowAt (λ c. true) g (same_row 0xFFFF_FFFF_FFFF_FFFF)
  row_all = row_same (λ c. true) 0xFFFF_FFFF_FFFF_FFFF (λ j _. sym (packed_all (64 * (4 * g + j)) 64))

  -- marks that agree on the row have the same row
  pub row_cong : (f h : ℕ → Bool) (x : Row) → ((c : ℕ) → 256 * g ≤ c → c < 256 * g + 256 → f c ≡ h c) → RowAt f g x → RowAt h g x
  row_cong f h x e r = record { word = λ j l. r.word j l ∙ packed_cong f h (64 * (4 * g + j)) 64 (λ c a b. e c (omega arith) (omega arith)) }

  -- an operation that works mark by mark
  row_each : (op : ℕ → ℕ → ℕ) (m : Bool → Bool → Bool) → ((f h : ℕ → Bool) (i : ℕ) → op (packed f i 64) (packed h i 64) ≡ packed (λ c. m (f c) (h c)) i 64)
      → (f h : ℕ → Bool) (x y : Row) → RowAt f g x → RowAt h g y → RowAt (λ c. m (f c) (h c)) g (each_word op x y)
  row_each op m law f h x y a b = record { word = λ j l. each_in op x y j ∙ ap₂ op (a.word j l) (b.word j l) ∙ law f h (64 * (4 * g + j)) }

  pub row_both : (f h : ℕ → Bool) (x y : Row) → RowAt f g x → RowAt h g y → RowAt (λ c. f c && h c) g (each_word bit_and x y)
  row_both = row_each bit_and ◌&&◌ (λ f h i. packed-and f h i 64)

  pub row_either : (f h : ℕ → Bool) (x y : Row) → RowAt f g x → RowAt h g y → RowAt (λ c. f c || h c) g (each_word bit_or x y)
  row_either = row_each bit_or ◌||◌ (λ f h i. packed-or f h i 64)

  pub row_lacks : (f h : ℕ → Bool) (x y : Row) → RowAt f g x → RowAt h g y → RowAt (lacks f h) g (each_word lacks_word x y)
  row_lacks = row_each lacks_word (λ a b. a && not b) packed-lacks

-- no bit of two words is set
or-zero : (a b : ℕ) → bit_or a b ≡ 0 → (a ≡ 0) × (b ≡ 0)
or-zero a b e = (omega (arith, or_add_and a b, and_le_r a b), omega (arith, or_add_and a b, and_le_l a b))

zero_or : (a b : ℕ) → a ≡ 0 → b ≡ 0 → bit_or a b ≡ 0
zero_or a b p q = omega (arith, or_add_and a b)

-- a row is empty exactly if each of its words is 0
pub empty_words : (x : Row) → empty_row x ≡ true → (j : ℕ) → j < 4 → word_in x j ≡ 0
empty_words x e =
    let d = or-zero (bit_or (bit_or x.a x.b) x.c) x.d (eqb-true _ 0 e) in
    let c = or-zero (bit_or x.a x.b) x.c d.0 in
    let b = or-zero x.a x.b c.0 in
    below_four (λ j. word_in x j ≡ 0) b.0 b.1 c.1 d.1

pub words_empty : (x : Row) → x.a ≡ 0 → x.b ≡ 0 → x.c ≡ 0 → x.d ≡ 0 → empty_row x ≡ true
words_empty x a b c d = eq-eqb _ 0 (zero_or _ _ (zero_or _ _ (zero_or _ _ a b) c) d)

-- an empty row has no coalition
module _ (f : ℕ → Bool) (g : ℕ) (x : Row) (r : RowAt f g x) where
  pub row_empty : empty_row x ≡ true → (c : ℕ) → 256 * g ≤ c → c < 256 * g + 256 → f c ≡ false
  row_empty e c low high =
      let j = (c - 256 * g) / 64 in
      let small : j < 4 = omega arith in
      (packed_zero f (64 * (4 * g + j)) 64).0 (sym (r.word j small) ∙ empty_words x e j small) c (omega arith) (omega arith)

  -- and where there is none, the row is empty
  pub empty_row_lem : ((c : ℕ) → 256 * g ≤ c → c < 256 * g + 256 → f c ≡ false) → empty_row x ≡ true
  empty_row_lem none =
      let zero_at : (j : ℕ) → j < 4 → word_in x j ≡ 0 = λ j h. r.word j h ∙ (packed_zero f (64 * (4 * g + j)) 64).1 (λ c a b. none c (omega arith) (omega arith)) in
      words_empty x (zero_at 0 (omega arith)) (zero_at 1 (omega arith)) (zero_at 2 (omega arith)) (zero_at 3 (omega arith))

-- ---- rows on both sides

-- a coalition of row g that is marked, on some side
pub record MarkedIn (f : Marks) (g : ℕ) : Type 0 where
  pub side : Side
  pub coalition : ℕ
  pub low : 256 * g ≤ coalition
  pub high : coalition < 256 * g + 256
  pub marked : f side coalition ≡ true

module _ (g : ℕ) where
  pub rows_each : (op : ℕ → ℕ → ℕ) (k : Marks) (x y : Rows) → ((s : Side) → RowAt (k s) g (each_word op (row_on x s) (row_on y s))) → RowsAt k g (each_row op x y)
  rows_each op k x y e = record { row = λ s. subst (RowAt (k s) g) (sym (each_on op x y s)) (e s) }

  pub rows_same : (f : Marks) (x : ℕ) → ((s : Side) → RowAt (f s) g (same_row x)) → RowsAt f g (same_rows x)
  rows_same f x e = record { row = λ s. subst (RowAt (f s) g) (sym (same_on x s)) (e s) }

  -- by its two rows
  pub rows_of : (f : Marks) (see change : Row) → RowAt (f confidentiality) g see → RowAt (f integrity) g change → RowsAt f g (record { see = see; change = change })
  rows_of f see change a b = record { row = elim [ confidentiality ↦ a | integrity ↦ b ] }

  pub rows_cong : (f h : Marks) (x : Rows) → ((s : Side) (c : ℕ) → 256 * g ≤ c → c < 256 * g + 256 → f s c ≡ h s c) → RowsAt f g x → RowsAt h g x
  rows_cong f h x e r = record { row = λ s. row_cong g (f s) (h s) (row_on x s) (e s) (r.row s) }

  -- rows that are empty on both sides have no coalition
  pub rows_empty : (f : Marks) (x : Rows) → RowsAt f g x → empty_rows x ≡ true → (s : Side) (c : ℕ) → 256 * g ≤ c → c < 256 * g + 256 → f s c ≡ false
  rows_empty f x r e s c low high =
      by s (f confidentiality c) (f integrity c) refl refl
      (row_empty (λ c. f confidentiality c || f integrity c) g _ (row_either g (f confidentiality) (f integrity) x.see x.change (r.row confidentiality) (r.row integrity)) e c low high)
    where
      by : (s : Side) (a b : Bool) → f confidentiality c ≡ a → f integrity c ≡ b → (a || b) ≡ false → f s c ≡ false
      by confidentiality false b p q z = p
      by confidentiality true b p q z = absurd (true≢false z)
      by integrity false b p q z = q ∙ z
      by integrity true b p q z = absurd (true≢false z)

  -- and rows that are not have one
  pub rows_some : (f : Marks) (x : Rows) → RowsAt f g x → empty_rows x ≡ false → MarkedIn f g
  rows_some f x r e = by (lowest (λ j. on (256 * g + j)) 256) refl
    where
      on : ℕ → Bool
      on c = f confidentiality c || f integrity c

      none : ((j : ℕ) → j < 256 → on (256 * g + j) ≡ false) → empty_rows x ≡ true
      none h = empty_row_lem on g _ (row_either g (f confidentiality) (f integrity) x.see x.change (r.row confidentiality) (r.row integrity))
          (λ c low high. let q : 256 * g + (c - 256 * g) ≡ c = omega arith in subst (λ (d : ℕ). on d ≡ false) q (h (c - 256 * g) (omega arith)))

      by : (a : Lowest) → lowest (λ j. on (256 * g + j)) 256 ≡ a → MarkedIn f g
      by nowhere q = absurd (clash (none ((lowest_nowhere (λ j. on (256 * g + j)) 256).0 q)) e)
      by (at j) q =
          let l = (lowest_at (λ j. on (256 * g + j)) 256 j).0 q in
          let high : 256 * g + j < 256 * g + 256 = omega (arith, l.below) in
          or_elim (f confidentiality (256 * g + j)) (f integrity (256 * g + j))
          (λ m. record { side = confidentiality; coalition = 256 * g + j; low = omega arith; high = high; marked = m })
          (λ m. record { side = integrity; coalition = 256 * g + j; low = omega arith; high = high; marked = m })
          l.there

  -- those of the rows of f that are not among those of h
  pub rows_rest : (f h : Marks) (x y : Rows) → RowsAt f g x → RowsAt h g y → RowsAt (λ s. lacks (f s) (h s)) g (each_row lacks_word x y)
  rows_rest f h x y a b = rows_each lacks_word _ x y (λ s. row_lacks g (f s) (h s) _ _ (a.row s) (b.row s))

  -- those of both
  pub rows_both : (f h : Marks) (x y : Rows) → RowsAt f g x → RowsAt h g y → RowsAt (λ s c. f s c && h s c) g (each_row bit_and x y)
  rows_both f h x y a b = rows_each bit_and _ x y (λ s. row_both g (f s) (h s) _ _ (a.row s) (b.row s))

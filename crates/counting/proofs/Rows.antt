-- Rows that are looked at one after the other: what each tells of its coalitions, and all of them of a grant. Assumes nothing.
use mathlib.Core.Path.{◌≡◌, sym, ap, ◌∙◌}
use mathlib.Core.Bool.{Bool, true, false, true≢false, not}
use mathlib.Core.List.{List}
use Prim.Native.Nat.{ℕ, ◌+◌, ◌-◌, ◌*◌, ◌/◌, ◌^◌, ◌≤◌, ◌<◌}
use native.Mathlib.Nat.{zero-add}
use native.Mathlib.Omega.{arith}
use lib.ListN.{length, get_or}
use lib.Pow.{pow_pos}
use Rattle.std.specs.Bool.{MatchBool}
use Rattle.std.specs.List.{AllWithin, HoldsAt, range_with_len}
use Rattle.std.proofs.lemmas.List.FromFn.{get_or-range_with_len, length-range_with_len}
use Rattle.model.specs.Sides.{integrity}
use Rattle.model.specs.Coalitions.{every, mark}
use Rattle.model.specs.Terms.{held}
use Rattle.model.specs.Grants.{marks_of}
use Rattle.model.proofs.Truth.{clash, false_of}
use Rattle.model.proofs.Search.{every_elim, every_intro}
use Rattle.model.proofs.Monotone.{held_monotone}
use Rattle.words.specs.AnyBytes.{term_in}
use Rattle.words.specs.declared.Row.{Row}
use Rattle.words.specs.FourWords.{RowAt}
use Rattle.words.specs.Evaluation.{job_of, row_count}
use Rattle.words.proofs.FourWords.{row_empty}
use Rattle.words.proofs.Names.{rows_few, rows_few_of}
use Rattle.words.proofs.Searches.{clear_all, clear_not}
use Rattle.counting.specs.Counted.{grant_in, bars_at, heard_at, ClearAt, FirstCleared}
use Rattle.counting.proofs.Bars.{heard_bars}
use Rattle.counting.proofs.Tests.{marked_job}

-- ---- a test of the numbers below one

-- it says P of each, or Q of some
module _ (to : ℕ) where
  at_place : (g : ℕ) → g < to → get_or (range_with_len 0 to) g 0 ≡ g
  at_place g l = get_or-range_with_len 0 to g 0 l ∙ zero-add g

  each_told : (P : ℕ → Type 0) → AllWithin P (range_with_len 0 to) 0 (length (range_with_len 0 to)) → (g : ℕ) → g < to → P g
  each_told P m g l = rw (at_place g l) at (m g 0 (omega arith) (omega (arith, length-range_with_len 0 to)))

  record Some (Q : ℕ → Type 0) : Type 0 where
    number : ℕ
    below : number < to
    told : Q number

  some_told : (Q : ℕ → Type 0) → (i : ℕ) × (i < length (range_with_len 0 to)) × HoldsAt Q (range_with_len 0 to) i → Some Q
  some_told Q m = let below : m.0 < to = omega (arith, m.1, length-range_with_len 0 to) in record { number = m.0; below = below; told = rw (at_place m.0 below) at (m.2 0) }

-- a test of each row
pub all_every : (f : ℕ → Bool) (r : Bool) (to : ℕ)
    → MatchBool r (AllWithin (λ g. f g ≡ true) (range_with_len 0 to) 0 (length (range_with_len 0 to)))
    ((i : ℕ) × (i < length (range_with_len 0 to)) × HoldsAt (λ g. f g ≡ false) (range_with_len 0 to) i)
    → r ≡ every f to
all_every f true to m = sym (every_intro f to (each_told to (λ g. f g ≡ true) m))
all_every f false to m = let s = some_told to (λ g. f g ≡ false) m in sym (false_of (every f to) (λ t. clash (every_elim f to t s.number s.below) s.told))

-- ---- rows of coalitions of n names, of which none is wanted to be one of f

module _ (f : ℕ → Bool) (n : ℕ) where
  -- no coalition of row g is, and some coalition is
  unfoldable pub RowClear : ℕ → Type 0
  RowClear g = g < row_count n → (c : ℕ) → 256 * g ≤ c → c < 256 * g + 256 → mark (job_of n) f c ≡ false

  unfoldable pub RowBars : ℕ → Type 0
  RowBars g = g < row_count n → every (λ c. not (f c)) (2 ^ job_of n) ≡ false

  -- the row's coalitions among those of the job
  row_job : (g : ℕ) (x : Row) → g < row_count n → RowAt (mark n f) g x → RowAt (mark (job_of n) f) g x
  row_job g x l r = marked_job n g f x (omega (arith, rows_few n)) r

  pub told_clear : (g : ℕ) → (g < row_count n → ClearAt (mark n f) g true) → RowClear g
  unfolding RowClear
  told_clear g h l = let d = h l in row_empty (mark (job_of n) f) g d.row (row_job g d.row l d.is) (sym d.told)

  pub told_bars : (g : ℕ) → (g < row_count n → ClearAt (mark n f) g false) → RowBars g
  unfolding RowBars
  told_bars g h l = let d = h l in sym (clear_not (job_of n) f g d.row (row_job g d.row l d.is) (sym d.told))

  -- all rows are clear
  each_clear : ((g : ℕ) → g < row_count n → RowClear g) → true ≡ every (λ c. not (f c)) (2 ^ job_of n)
  unfolding RowClear
  each_clear h = clear_all (job_of n) f (omega arith) (λ c l. let below : c / 256 < row_count n = omega (arith, rows_few_of n) in h (c / 256) below below c (omega arith) (omega arith))

  pub rows_cleared : (r : Bool) (to : ℕ) → to ≡ row_count n
      → MatchBool r (AllWithin RowClear (range_with_len 0 to) 0 (length (range_with_len 0 to)))
      ((i : ℕ) × (i < length (range_with_len 0 to)) × HoldsAt RowBars (range_with_len 0 to) i)
      → r ≡ every (λ c. not (f c)) (2 ^ job_of n)
  unfolding RowBars
  rows_cleared true to e m = each_clear (λ g l. each_told to RowClear m g (omega arith))
  rows_cleared false to e m = let s = some_told to RowBars m in sym (s.told (omega (arith, s.below)))

-- ---- the first row alone
module _ (ledger : List ℕ) (n k : ℕ) (label : List ℕ) where
  heard_all : heard_at ledger n label k ≡ every (λ c. not (bars_at ledger label k c)) (2 ^ job_of n)
  heard_all = heard_bars (job_of n) (held (term_in label)) (marks_of (grant_in ledger k)) (held_monotone (job_of n) (grant_in ledger k).label integrity)

  pub first_cleared : (r : Bool) → ClearAt (mark n (bars_at ledger label k)) 0 r → FirstCleared ledger n k label r
  unfolding RowBars
  first_cleared false told =
      let barred : heard_at ledger n label k ≡ false = heard_all ∙ told_bars (bars_at ledger label k) n 0 (λ _. told) (pow_pos (job_of n - 8)) in
      record { barred = λ _. barred; alone = λ _. sym barred }
  first_cleared true told = record {
    barred = λ f. absurd (true≢false f);
    alone = λ h.
        let none : job_of n - 8 ≡ 0 = omega arith in
        let one : row_count n ≡ 1 = ap (λ (x : ℕ). 2 ^ x) none in
        each_clear (bars_at ledger label k) n (λ g l. let first : g ≡ 0 = omega arith in rw first (told_clear (bars_at ledger label k) n 0 (λ _. told))) ∙ sym heard_all;
  }

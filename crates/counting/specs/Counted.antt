-- Which grants count, on any bytes (document 01, "Grants that count"; document 02, K2 and K6). Assumes nothing: these are definitions.
use Rattle.std.specs.Prelude.{◌≡◌, Bool, true, false, cond, not, ◌&&◌, ◌||◌, List, ℕ, ◌+◌, ◌-◌, ◌*◌, ◌%◌, ◌^◌, ◌≤◌, ◌<◌, ltb, drop}
use Rattle.std.specs.Int.Bits.{bit_and}
use Rattle.model.specs.Sides.{confidentiality, integrity}
use Rattle.model.specs.Bytes.{four_bytes}
use Rattle.model.specs.Coalitions.{member, Marks, every, mark, packed}
use Rattle.model.specs.Terms.{Term, NamesBelow, held}
use Rattle.model.specs.Dates.{in_days}
use Rattle.model.specs.Grants.{Grant, GrantMarks, marks_of, breaks, heard, under, counts_under}
use Rattle.words.specs.AnyBytes.{term_in}
use Rattle.words.specs.declared.Row.{Row}
use Rattle.words.specs.declared.Rows.{Rows}
use Rattle.words.specs.FourWords.{RowAt, RowsAt, each_word, lacks, lacks_word, empty_row}
use Rattle.words.specs.Evaluation.{job_of, row_count}
use Rattle.ledgers.specs.Places.{p_place, q_place, label_place, days_place}
use Rattle.tables.specs.declared.Table.{Table}
use Rattle.tables.specs.Filling.{rows_of}
use Rattle.counting.specs.declared.Known.{Known}
use Rattle.counting.specs.declared.Judged.{Judged}

-- the grant whose terms and days stand in any bytes where those of grant k of a ledger do
abbrev pub grant_in : List ℕ → ℕ → Grant
grant_in ledger k = record {
  p = term_in (drop (p_place k) ledger);
  q = term_in (drop (q_place k) ledger);
  label = term_in (drop (label_place k) ledger);
  first = four_bytes (days_place k) ledger;
  last = four_bytes (days_place k + 4) ledger;
}

-- coalition c shows that a grant labelled d is not visible under L
unfoldable pub hides : Marks → Marks → ℕ → Bool
hides L d c = lacks (L confidentiality) (d confidentiality) c || lacks (d integrity) (L integrity) c

-- it breaks the grant, on some side
unfoldable pub breaks_some : GrantMarks → ℕ → Bool
breaks_some g c = breaks g confidentiality c || breaks g integrity c

-- It shows that the grant is not visible under L, or not spoken: it holds the grant's label on the change side, and breaks the grant.
unfoldable pub bars_counting : Marks → GrantMarks → ℕ → Bool
bars_counting L g c = hides L g.label c || (g.label integrity c && breaks_some g c)

-- and of grant k under the label
abbrev pub bars_at : List ℕ → List ℕ → ℕ → ℕ → Bool
bars_at ledger label k = bars_counting (held (term_in label)) (marks_of (grant_in ledger k))

-- the sets of a grant, its p being asked of coalitions with further members: so much is added to their numbers
abbrev pub joined_by : ℕ → GrantMarks → GrantMarks
joined_by more g = record { p = λ s c. g.p s (c + more); q = g.q; label = g.label }

-- c does so of grant k, p being asked so many rows further on
abbrev pub bars_with : List ℕ → List ℕ → ℕ → ℕ → ℕ → Bool
bars_with ledger label k rows = bars_counting (held (term_in label)) (joined_by (256 * rows) (marks_of (grant_in ledger k)))

-- no coalition of n names does
abbrev pub none_bars : List ℕ → List ℕ → ℕ → ℕ → ℕ → Bool
none_bars ledger label k rows n = every (λ c. not (bars_with ledger label k rows c)) (2 ^ job_of n)

-- grant k is visible under the label, and spoken
abbrev pub heard_at : List ℕ → ℕ → List ℕ → ℕ → Bool
heard_at ledger n label k = heard (job_of n) (held (term_in label)) (marks_of (grant_in ledger k))

-- the day is within the days of grant k
abbrev pub on_day : List ℕ → ℕ → ℕ → Bool
on_day ledger day k = in_days (grant_in ledger k).first (grant_in ledger k).last day

-- grant k counts under the label, on the day
abbrev pub counts_at : List ℕ → ℕ → List ℕ → ℕ → ℕ → Bool
counts_at ledger n label day k = counts_under (under (job_of n) (term_in label) day) (grant_in ledger k)

-- there is a grant k, and it counts
abbrev pub counts_in : List ℕ → ℕ → ℕ → List ℕ → ℕ → ℕ → Bool
counts_in ledger n grants label day k = ltb k grants && counts_at ledger n label day k

-- bit k is set exactly if grant k counts; no ledger has more grants than 64
unfoldable pub counted_in : List ℕ → ℕ → ℕ → List ℕ → ℕ → ℕ
counted_in ledger n grants label day = cond (ltb 64 grants) 0 (packed (counts_in ledger n grants label day) 0 64)

-- nothing is known of any grant
abbrev pub nothing_known : Known
nothing_known = record { unjudged = 0xFFFF_FFFF_FFFF_FFFF; possible = 0xFFFF_FFFF_FFFF_FFFF }

-- What is known is so, f being what counts: a grant that is no longer possible doesn't, and of those that were judged the possible ones do.
pub record KnownOf (f : ℕ → Bool) (known : Known) : Type 0 where
  pub judged : (k : ℕ) → k < 64 → member k known.unjudged ≡ false → member k known.possible ≡ f k
  pub closed : (k : ℕ) → k < 64 → member k known.possible ≡ false → f k ≡ false

-- what is known once it is known whether grant k, if it may count, does
abbrev pub judged_at : Bool → ℕ → Known → Known
judged_at counts k known = cond (member k known.possible && member k known.unjudged)
    (record { unjudged = known.unjudged - 2 ^ k; possible = cond counts known.possible (known.possible - 2 ^ k) })
    known

-- r is above each name of the term that the bytes from a place on stand for, and at least as much as `least`
pub record NamesAt (bytes : List ℕ) (at least r : ℕ) : Type 0 where
  pub most : least ≤ r
  pub below : NamesBelow r (term_in (drop at bytes))

-- Grant k is heard under the label exactly if no coalition of r of the n names bars it where p is asked with all the others among the members: in the last rows.
pub record NeededOf (ledger : List ℕ) (n k : ℕ) (label : List ℕ) (r : ℕ) : Type 0 where
  pub few : r ≤ n
  pub alike : none_bars ledger label k (row_count n - row_count r) r ≡ heard_at ledger n label k

-- those of a row that change the grant's label and don't hold the voice of q
abbrev pub unvoiced_row : Rows → Rows → Row
unvoiced_row own q = each_word lacks_word own.change (each_word bit_and q.see q.change)

-- row g of the tables has none
abbrev pub voiced_at : Judged → ℕ → Bool
voiced_at judged g = empty_row (unvoiced_row (rows_of judged.own (g % 16)) (rows_of judged.q (g % 16)))

-- the table holds the rows of a term that n names have
abbrev pub TableOf : Term → ℕ → Table → Type 0
TableOf t n table = (g : ℕ) → g < row_count n → RowsAt (held t) g (rows_of table g)

-- no coalition of row g is one of f exactly if r is true, as the row tells
pub record ClearAt (f : ℕ → Bool) (g : ℕ) (r : Bool) : Type 0 where
  pub row : Row
  pub is : RowAt f g row
  pub told : r ≡ empty_row row

-- the tables hold those of the label, of the label of grant k and of its q
pub record JudgedAt (ledger : List ℕ) (n k : ℕ) (label : List ℕ) (judged : Judged) : Type 0 where
  pub under : TableOf (term_in label) n judged.under
  pub own : TableOf (grant_in ledger k).label n judged.own
  pub q : TableOf (grant_in ledger k).q n judged.q

-- Where row g of the tables of a grant has none that is unvoiced, r tells whether some coalition of n names in it bars the grant, wherever p is asked,
unfoldable pub SeenAt : Judged → ℕ → ℕ → Bool → Type 0
SeenAt judged n g r =
    (ledger label : List ℕ) (k more : ℕ) → JudgedAt ledger n k label judged → g < row_count n → voiced_at judged g ≡ true → ClearAt (mark n (bars_with ledger label k more)) g r

-- and so it does anywhere from a table of p, asked so many rows further on.
unfoldable pub AskedAt : Judged → Table → ℕ → ℕ → ℕ → Bool → Type 0
AskedAt judged p n more g r =
    (ledger label : List ℕ) (names k : ℕ) → JudgedAt ledger n k label judged → TableOf (grant_in ledger k).p names p → g < row_count n → g + more < row_count names
    → ClearAt (mark n (bars_with ledger label k more)) g r

-- What the first row tells: where r is false the grant is not heard, and up to eight names have no other row.
pub record FirstCleared (ledger : List ℕ) (n k : ℕ) (label : List ℕ) (r : Bool) : Type 0 where
  pub barred : r ≡ false → heard_at ledger n label k ≡ false
  pub alone : n ≤ 8 → r ≡ heard_at ledger n label k

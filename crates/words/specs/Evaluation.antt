-- Where terms are held (document 01, "Terms"), 64 coalitions in a word, four words in a row: bit j of word w is coalition 64 × w + j. Assumes nothing: these
-- are definitions.
use Rattle.std.specs.Prelude.{◌≡◌, Bool, true, false, not, ◌&&◌, ◌||◌, List, ℕ, ◌+◌, ◌-◌, ◌*◌, ◌^◌, ◌≤◌, ◌<◌, min, eqb, ltb, length, drop, get_or}
use Rattle.std.specs.Int.Bits.{bit_and, bit_or}
use Rattle.model.specs.Sides.{Side, confidentiality, integrity}
use Rattle.model.specs.Coalitions.{mark, packed}
use Rattle.model.specs.Terms.{Term, quorate, held}
use Rattle.words.specs.declared.Rows.{Rows}
use Rattle.words.specs.declared.Tables.{Tables}
use Rattle.terms.specs.declared.Joiner.{Joiner}
use Rattle.terms.specs.declared.Joiner.TheVariants.{Both, Either}
use Rattle.words.specs.AnyBytes.{taken, term_in}
use Rattle.words.specs.FourWords.{RowsAt, each_row}

-- word w of a term on a side
abbrev pub held_word : Term → Side → ℕ → ℕ
held_word t s w = packed (held t s) (64 * w) 64

-- word w of the coalitions of n names, those below 2^n
abbrev pub coalition_word : ℕ → ℕ → ℕ
coalition_word n w = packed (λ c. ltb c (2 ^ n)) (64 * w) 64

-- a job has at most 12 names
abbrev pub job_of : ℕ → ℕ
job_of n = min n 12

-- How many words the coalitions of a job of n names take: the least that hold 2^n bits.
abbrev pub word_count : ℕ → ℕ
word_count n = 2 ^ (job_of n - 6)

-- and how many rows
abbrev pub row_count : ℕ → ℕ
row_count n = 2 ^ (job_of n - 8)

-- f holds at no coalition of n names in the rows before g
abbrev pub ClearTo : ℕ → (ℕ → Bool) → ℕ → Type 0
ClearTo n f g = (c : ℕ) → c < 256 * g → mark n f c ≡ false

-- What evaluating at a place of any bytes answers: row g of the term that the bytes from there on stand for, and the place after it.
pub record Evaluated (bytes : List ℕ) (at g : ℕ) (rows : Rows) (next : ℕ) : Type 0 where
  pub held_there : RowsAt (held (term_in (drop at bytes))) g rows
  pub past : next ≡ at + (taken (drop at bytes)).size

-- a byte that is no name, not both or either, not 21 and no side
abbrev pub left_over : ℕ → Bool
left_over c = not (ltb c 12 || ((eqb c 0x30 || eqb c 0x31) || (eqb c 0x21 || (eqb c 0x40 || eqb c 0x41))))

-- two parts joined
abbrev pub joined : Joiner → Rows → Rows → Rows
joined Both p q = each_row bit_and p q
joined Either p q = each_row bit_or p q

-- there is a quorum's code at the place, and a k and an m in range follow it
abbrev pub quorum_at : List ℕ → ℕ → Bool
quorum_at bytes at = eqb (get_or bytes at 0) 0x32 && (ltb (at + 2) (length bytes) && quorate (get_or bytes (at + 1) 0) (get_or bytes (at + 2) 0))

-- the table of a side
abbrev pub table_on : Tables → Side → List ℕ
table_on tables confidentiality = tables.see
table_on tables integrity = tables.change

-- the first k words of a list are those of the term on the side
pub record Tabled (t : Term) (s : Side) (k : ℕ) (words : List ℕ) : Type 0 where
  pub word : (w : ℕ) → w < k → get_or words w 0 ≡ held_word t s w

-- What evaluating the first k words leaves in a list: where it has room for them, those of the term on the side; and later words keep their content.
pub record EvaluatedTo (t : Term) (s : Side) (k : ℕ) (before after : List ℕ) : Type 0 where
  pub table : k ≤ length before → Tabled t s k after
  pub same : length after ≡ length before
  pub kept : (w : ℕ) → k ≤ w → get_or after w 0 ≡ get_or before w 0

-- of the k marks f i, f (i + 1), .. the first that is set is number r
pub record LowestMark (f : ℕ → Bool) (i k r : ℕ) : Type 0 where
  pub small : r < k
  pub marked : f (i + r) ≡ true
  pub least : (j : ℕ) → j < r → f (i + j) ≡ false

-- r is the number of the lowest bit of x that is set, of whatever marks x is the word; 64 where there is none
pub record LowestBit (x r : ℕ) : Type 0 where
  pub found : (f : ℕ → Bool) (i : ℕ) → x ≡ packed f i 64 → (x ≡ 0 → ⊥) → LowestMark f i 64 r
  pub none : x ≡ 0 → r ≡ 64

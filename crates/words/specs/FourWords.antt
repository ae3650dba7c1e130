-- Rows of a set of coalitions, four words of 64 each: bit k of word j of row g is coalition 256 × g + 64 × j + k. Assumes nothing: these are definitions.
use Rattle.std.specs.Prelude.{◌≡◌, Bool, not, ◌&&◌, List, ℕ, zero, suc, ◌+◌, ◌-◌, ◌*◌, ◌<◌, eqb, length, get_or, set}
use Rattle.std.specs.Int.Bits.{bit_and, bit_or}
use Rattle.model.specs.Sides.{Side, confidentiality, integrity}
use Rattle.model.specs.Coalitions.{Marks, packed}
use Rattle.words.specs.declared.Row.{Row}
use Rattle.words.specs.declared.Rows.{Rows}
use Rattle.words.specs.declared.Side.{Side as CodeSide}
use Rattle.words.specs.declared.Side.TheVariants.{See, Change}

-- the see side is confidentiality, the change side integrity
abbrev pub side_of : CodeSide → Side
side_of See = confidentiality
side_of Change = integrity

-- word j of a row
abbrev pub word_in : Row → ℕ → ℕ
word_in r zero = r.a
word_in r (suc zero) = r.b
word_in r (suc (suc zero)) = r.c
word_in r (suc (suc (suc j))) = r.d

-- the row of a side
abbrev pub row_on : Rows → Side → Row
row_on rows confidentiality = rows.see
row_on rows integrity = rows.change

-- Row g of a set of coalitions, and of one on each side.
pub record RowAt (f : ℕ → Bool) (g : ℕ) (row : Row) : Type 0 where
  pub word : (j : ℕ) → j < 4 → word_in row j ≡ packed f (64 * (4 * g + j)) 64

pub record RowsAt (f : Marks) (g : ℕ) (rows : Rows) : Type 0 where
  pub row : (s : Side) → RowAt (f s) g (row_on rows s)

-- an operation on two words, at each word of two rows, and of two rows on each side
abbrev pub each_word : (ℕ → ℕ → ℕ) → Row → Row → Row
each_word op x y = record { a = op x.a y.a; b = op x.b y.b; c = op x.c y.c; d = op x.d y.d }

abbrev pub each_row : (ℕ → ℕ → ℕ) → Rows → Rows → Rows
each_row op x y = record { see = each_word op x.see y.see; change = each_word op x.change y.change }

-- a relation at the words of two rows and what came of them, and at rows on each side
abbrev pub AtEachWord : (ℕ → ℕ → ℕ → Type 0) → Row → Row → Row → Type 0
AtEachWord of x y r = of x.a y.a r.a × of x.b y.b r.b × of x.c y.c r.c × of x.d y.d r.d

abbrev pub AtEachSide : (Row → Row → Row → Type 0) → Rows → Rows → Rows → Type 0
AtEachSide of x y r = of x.see y.see r.see × of x.change y.change r.change

-- c is one of f and none of h
abbrev pub lacks : (ℕ → Bool) → (ℕ → Bool) → ℕ → Bool
lacks f h c = f c && not (h c)

-- the bits of the first word that are not in the second
abbrev pub lacks_word : ℕ → ℕ → ℕ
lacks_word x y = bit_and x (0xFFFF_FFFF_FFFF_FFFF - y)

-- the same row on both sides
abbrev pub both_sides : Row → Rows
both_sides x = record { see = x; change = x }

-- a row on the side, and another on the other
abbrev pub sided : Side → Row → Row → Rows
sided confidentiality row other = record { see = row; change = other }
sided integrity row other = record { see = other; change = row }

-- the same word four times, and on both sides
abbrev pub same_row : ℕ → Row
same_row x = record { a = x; b = x; c = x; d = x }

abbrev pub same_rows : ℕ → Rows
same_rows x = record { see = same_row x; change = same_row x }

-- no bit is set
abbrev pub empty_row : Row → Bool
empty_row x = eqb (bit_or (bit_or (bit_or x.a x.b) x.c) x.d) 0

-- nor on either side
abbrev pub empty_rows : Rows → Bool
empty_rows x = empty_row (each_word bit_or x.see x.change)

-- a list whose words of row g are those of a row
abbrev pub row_set : List ℕ → ℕ → Row → List ℕ
row_set words g row = set (set (set (set words (4 * g) row.a) (4 * g + 1) row.b) (4 * g + 2) row.c) (4 * g + 3) row.d

-- row g of a list of words
abbrev pub row_in : List ℕ → ℕ → Row
row_in words g = record { a = get_or words (4 * g) 0; b = get_or words (4 * g + 1) 0; c = get_or words (4 * g + 2) 0; d = get_or words (4 * g + 3) 0 }

-- place j of a quorum's table
abbrev pub rows_in : List Rows → ℕ → Rows
rows_in table j = get_or table j (same_rows 0)

-- A quorum's table with room for place k, after one part more, of the rows x: from 1 to k, place j + 1 gains what place j had and the part has.
pub record Weighed (k : ℕ) (x : Rows) (before after : List Rows) : Type 0 where
  pub same : length after ≡ length before
  pub none : rows_in after 0 ≡ rows_in before 0
  pub each : (j : ℕ) → j < k → k < length before → rows_in after (suc j) ≡ each_row bit_or (rows_in before (suc j)) (each_row bit_and (rows_in before j) x)

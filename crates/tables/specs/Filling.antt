-- What holds a term at all rows of a side (document 01, "Terms"). Assumes nothing: these are definitions.
use Rattle.std.specs.Prelude.{◌≡◌, Bool, true, false, ◌&&◌, ◌||◌, List, ℕ, ◌+◌, ◌≤◌, ◌<◌, cond, eqb, ltb, length, drop, get_or, replicate, Option, Some, None}
use Rattle.std.specs.Int.Bits.{bit_and, bit_or}
use Rattle.model.specs.Sides.{Side, confidentiality, integrity}
use Rattle.model.specs.Terms.{Term, conj, disj, held}
use Rattle.terms.specs.declared.Joiner.{Joiner}
use Rattle.terms.specs.declared.Joiner.TheVariants.{Both, Either}
use Rattle.words.specs.declared.Row.{Row}
use Rattle.words.specs.declared.Rows.{Rows}
use Rattle.words.specs.declared.Side.{Side as CodeSide}
use Rattle.words.specs.declared.Side.TheVariants.{See, Change}
use Rattle.words.specs.AnyBytes.{taken}
use Rattle.words.specs.FourWords.{RowAt, each_word, same_row}
use Rattle.tables.specs.declared.Table.{Table}

-- row g of a list of rows
abbrev pub nth_row : List Row → ℕ → Row
nth_row rows g = get_or rows g (same_row 0)

-- the rows of a side, of two lists of rows
abbrev pub listed : List Row → List Row → Side → List Row
listed see change confidentiality = see
listed see change integrity = change

-- row g of a table, on both sides
abbrev pub rows_of : Table → ℕ → Rows
rows_of table g = record { see = nth_row table.see g; change = nth_row table.change g }

-- a table in which no coalition is marked
abbrev pub blank : Table
blank = record { see = replicate 16 (same_row 0); change = replicate 16 (same_row 0) }

-- Each of the first rows of a list became another, as a relation over its number says; later rows are as they were.
pub record EachRow (of : ℕ → Row → Row → Type 0) (count : ℕ) (before after : List Row) : Type 0 where
  pub row : (g : ℕ) → g < count → count ≤ length before → of g (nth_row before g) (nth_row after g)
  pub later : (g : ℕ) → count ≤ g → nth_row after g ≡ nth_row before g
  pub same : length after ≡ length before

-- two rows that are joined, and two marks
abbrev pub joined_row : Joiner → Row → Row → Row
joined_row Both x y = each_word bit_and x y
joined_row Either x y = each_word bit_or x y

abbrev pub joined_mark : Joiner → Bool → Bool → Bool
joined_mark Both a b = a && b
joined_mark Either a b = a || b

-- A term that was held on side s serves for a side: for this one alone, or for both where it is not sided.
abbrev pub Serves : Bool → Side → Side → Type 0
Serves sided s t = sided ≡ true → t ≡ s

-- The first rows are those of a term on side s, and on the other unless they are sided.
pub record Holding (term : Term) (s : Side) (sided : Bool) (count : ℕ) (before after : List Row) : Type 0 where
  pub row : (t : Side) → Serves sided s t → (g : ℕ) → g < count → count ≤ length before → RowAt (held term t) g (nth_row after g)
  pub same : length after ≡ length before

-- They were rows of any marks, and those of a term are joined to them.
pub record Joining (joiner : Joiner) (term : Term) (s : Side) (sided : Bool) (count : ℕ) (before after : List Row) : Type 0 where
  pub row : (t : Side) → Serves sided s t → (f : ℕ → Bool) (g : ℕ) → g < count → count ≤ length before → RowAt f g (nth_row before g)
      → RowAt (λ c. joined_mark joiner (f c) (held term t c)) g (nth_row after g)
  pub same : length after ≡ length before

-- the place after the term that the bytes from a place on stand for
abbrev pub end_of : List ℕ → ℕ → ℕ
end_of bytes at = at + (taken (drop at bytes)).size

-- the name at a place, if there is one
abbrev pub name_at : List ℕ → ℕ → Option ℕ
name_at bytes at = cond (ltb at (length bytes) && ltb (get_or bytes at 0) 12) (Some (get_or bytes at 0)) None

-- the side whose code this is, if it is one's
abbrev pub side_at : ℕ → Option CodeSide
side_at c = cond (eqb c 0x40) (Some See) (cond (eqb c 0x41) (Some Change) None)

-- the sides are the same
abbrev pub same_side : CodeSide → CodeSide → Bool
same_side See See = true
same_side See Change = false
same_side Change See = false
same_side Change Change = true

-- two terms that are joined
abbrev pub two_of : Joiner → Term → Term → Term
two_of Both p q = conj p q
two_of Either p q = disj p q

-- Rows that are joined to the first rows of a list. Assumes nothing.
use mathlib.Core.Bool.{Bool}
use mathlib.Core.List.{List}
use Prim.Native.Nat.{ℕ, ◌<◌}
use Rattle.model.specs.Sides.{Side}
use Rattle.model.specs.Coalitions.{member}
use Rattle.model.specs.Terms.{Term, name, held}
use Rattle.terms.specs.declared.Joiner.{Joiner}
use Rattle.terms.specs.declared.Joiner.TheVariants.{Both, Either}
use Rattle.words.specs.declared.Row.{Row}
use Rattle.words.specs.FourWords.{RowAt}
use Rattle.words.proofs.FourWords.{row_both, row_either}
use Rattle.tables.specs.Filling.{joined_row, joined_mark, EachRow, Serves, Joining}

pub row_joined : (j : Joiner) (g : ℕ) (f h : ℕ → Bool) (x y : Row) → RowAt f g x → RowAt h g y → RowAt (λ c. joined_mark j (f c) (h c)) g (joined_row j x y)
row_joined Both g f h x y a b = row_both g f h x y a b
row_joined Either g f h x y a b = row_either g f h x y a b

module _ (j : Joiner) (term : Term) (s : Side) (sided : Bool) (count : ℕ) (before after : List Row) where
  pub joining_each : (of : ℕ → Row → Row → Type 0)
      → ((t : Side) → Serves sided s t → (f : ℕ → Bool) (g : ℕ) (x y : Row) → g < count → of g x y → RowAt f g x → RowAt (λ c. joined_mark j (f c) (held term t c)) g y)
      → EachRow of count before after → Joining j term s sided count before after
  joining_each of law d = record { row = λ t e f g l m r. law t e f g _ _ l (d.row g l m) r; same = d.same }

-- where a name is held
pub name_held : (j : Joiner) (i : ℕ) (t : Side) (f : ℕ → Bool) (g : ℕ) (z : Row) → RowAt (λ c. joined_mark j (f c) (member i c)) g z → RowAt (λ c. joined_mark j (f c) (held (name i) t c)) g z
unfolding held
name_held j i t f g z r = r

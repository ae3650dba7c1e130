-- A row that is read from a table. Assumes nothing.
use mathlib.Core.Path.{◌≡◌, ap, ◌∙◌, sym, subst}
use mathlib.Core.List.{List}
use Prim.Native.Nat.{ℕ, ◌%◌, ◌<◌}
use native.Mathlib.Omega.{arith}
use lib.ListN.{drop}
use Rattle.model.specs.Coalitions.{Marks}
use Rattle.model.specs.Terms.{held}
use Rattle.words.specs.declared.Rows.{Rows}
use Rattle.words.specs.AnyBytes.{term_in}
use Rattle.words.specs.FourWords.{RowsAt}
use Rattle.words.specs.Evaluation.{row_count}
use Rattle.words.proofs.Names.{rows_few}
use Rattle.tables.specs.declared.Table.{Table}
use Rattle.tables.specs.Filling.{rows_of}

-- row g of n names
pub row_read : (f : Marks) (n g : ℕ) (table : Table) (rows : Rows) → g < row_count n → ((g : ℕ) → g < row_count n → RowsAt f g (rows_of table g)) → rows ≡ rows_of table (g % 16) → RowsAt f g rows
row_read f n g table rows l held e =
    let small : g % 16 ≡ g = omega (arith, rows_few n) in
    subst (RowsAt f g) (sym (e ∙ ap (rows_of table) small)) (held g l)

-- and of the term that stands at a place
pub row_held : (bytes : List ℕ) (n g at place : ℕ) (table : Table) (rows : Rows) → at ≡ place → g < row_count n
    → ((g : ℕ) → g < row_count n → RowsAt (held (term_in (drop at bytes))) g (rows_of table g)) → rows ≡ rows_of table (g % 16) → RowsAt (held (term_in (drop place bytes))) g rows
row_held bytes n g at place table rows here l held_all e = rw (sym here) (row_read (held (term_in (drop at bytes))) n g table rows l held_all e)

use Rattle.std.proofs.Common.{rules}
use mathlib.Core.Path.{◌≡◌, sym, ap, ◌∙◌, subst}
use Prim.Native.Nat.{ℕ}
use lib.Bits.{bit_and}
use lib.ListN.{drop}
use Rattle.model.specs.Terms.{held}
use Rattle.words.specs.declared.Rows.{Rows}
use Rattle.words.specs.AnyBytes.{term_in}
use Rattle.words.specs.FourWords.{RowsAt, each_row, lacks_word}
use Rattle.counting.specs.Counted.{grant_in}
use Rattle.soundness.proofs.Steps.{broken_rows, broken_none}
use Rattle.soundness.proofs.broken.Goals as goal
use Rattle.soundness.proofs.broken.Goals.{After-hold}

-- the rows of the grant's p, and of those that hold it
p_rows : (c : After-hold) → let a = c.args in RowsAt (held (grant_in a.ledger.now a.k).p) a.g c.hold.result.rows
p_rows c =
    let a = c.args in
    subst (λ (at : ℕ). RowsAt (held (term_in (drop at a.ledger.now))) a.g c.hold.result.rows) c.term_place.ensures c.hold.ensures.held_there

pub returns-then-none : goal.returns-then-none
returns-then-none c f h =
    let a = c.args in
    broken_none (grant_in a.ledger.now a.k) f _ _ _ h (p_rows (goal.at.returns-then-none c).After-hold) _ (search rules) (sym c.none.ensures ∙ c.if-none.true)

pub returns : goal.returns
returns c f h =
    let a = c.args in
    let q : RowsAt (held (grant_in a.ledger.now a.k).q) a.g c.hold-2.result.rows =
    subst (λ (at : ℕ). RowsAt (held (term_in (drop at a.ledger.now))) a.g c.hold-2.result.rows) c.term_place-2.ensures c.hold-2.ensures.held_there in
    let holding : c.each_side-holding.result ≡ each_row bit_and a.of c.hold.result.rows = search rules in
    broken_rows (grant_in a.ledger.now a.k) f _ _ _ h (p_rows (goal.at.returns c).After-hold) _ _ q (c.rest.ensures ∙ ap (λ (x : Rows). each_row lacks_word x c.hold-2.result.rows) holding)

use mathlib.Core.Path.{sym, ap, ◌∙◌}
use Rattle.model.specs.Terms.{held}
use Rattle.model.specs.Grants.{marks_of}
use Rattle.words.specs.FourWords.{RowsAt, empty_row}
use Rattle.counting.specs.Counted.{grant_in}
use Rattle.counting.proofs.Tests.{bars_unseen, bars_hidden}
use Rattle.counting.proofs.Asked.barring.Goals as goal
use Rattle.counting.proofs.Asked.barring.Goals.{After-hold-2, After-hold-3}

-- the rows of the grant's label, and of its q
own_rows : (c : After-hold-2) → RowsAt (held (grant_in c.args.self.now.ledger.now c.args.k).label) 0 c.hold-2.result.rows
own_rows c = rw c.term_place.ensures at c.hold-2.ensures.held_there

q_rows : (c : After-hold-3) → RowsAt (held (grant_in c.args.self.now.ledger.now c.args.k).q) 0 c.hold-3.result.rows
q_rows c = rw c.term_place-2.ensures at c.hold-3.ensures.held_there

pub returns-then-empty : goal.returns-then-empty
returns-then-empty c =
    bars_unseen _ _ 0 _ (own_rows (goal.at.returns-then-empty c).After-hold-2) _ _ c.hold.ensures.held_there c.without.ensures (sym c.empty.ensures ∙ c.if-empty.true)

pub returns-then-empty-2 : goal.returns-then-empty-2
returns-then-empty-2 c =
    let a = c.args in
    let at = goal.at.returns-then-empty-2 c in
    bars_hidden _ (marks_of (grant_in a.self.now.ledger.now a.k)) 0 _ (own_rows at.After-hold-2) _ _ (q_rows at.After-hold-3)
    (c.hidden.ensures _ _ 0 c.hold.ensures.held_there (own_rows at.After-hold-2)) (sym (c.empty-2.ensures ∙ ap empty_row c.unvoiced.ensures) ∙ c.if-empty-2.true)

pub returns : goal.returns
returns c =
    let a = c.args in
    let at = goal.at.returns c in
    c.barred.ensures _ (marks_of (grant_in a.self.now.ledger.now a.k)) 0 c.hold.ensures.held_there (own_rows at.After-hold-2) (q_rows at.After-hold-3)
    (rw c.term_place-3.ensures at c.hold-4.ensures.held_there)

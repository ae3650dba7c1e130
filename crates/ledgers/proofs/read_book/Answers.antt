-- The ledger's refusals, then the label's.
use Rattle.std.proofs.lemmas.Result.{err_from_is_err_and}
use Rattle.refusals.specs.declared.Refusal.TheVariants.{Label}
use Rattle.terms.proofs.Accepted.{accepted_as, refused_as}
use Rattle.ledgers.proofs.Accepted.{accepted_ledger, refused_ledger, book_ledger, book_label, book_both}
use Rattle.ledgers.proofs.read_book.Goals as goal

pub returns-in_err-sizes : goal.returns-in_err-sizes
returns-in_err-sizes c day =
    let p = err_from_is_err_and c.from_residual.result c.from_residual.ensures.1 in
    rw (p.1, p.2) (book_ledger _ _ day _ (refused_ledger _ _ c.read_ledger.ensures _ c.in_err-sizes.was))

pub returns-in_err-map_err : goal.returns-in_err-map_err
returns-in_err-map_err c day =
    let p = err_from_is_err_and c.from_residual-in_err-map_err.result c.from_residual-in_err-map_err.ensures.1 in
    let r = refused_as _ _ _ c.read_term.ensures Label _ c.map_err.ensures.cases _ c.in_err-map_err.was in
    rw (p.1, p.2, r.1) (book_label _ _ day _ (accepted_ledger _ _ c.read_ledger.ensures _ c.in_ok-sizes.was) _ r.2)

pub returns : goal.returns
returns c day =
    let t = accepted_as _ _ _ c.read_term.ensures Label _ c.map_err.ensures.cases _ c.in_ok-map_err.was in
    book_both _ _ day _ (accepted_ledger _ _ c.read_ledger.ensures _ c.in_ok-sizes.was) t.value t.is

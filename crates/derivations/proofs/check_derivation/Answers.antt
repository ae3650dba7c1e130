-- The refusals in their order, then the steps.
use mathlib.Core.Path.{sym, ◌∙◌}
use Rattle.std.proofs.lemmas.Result.{err_from_is_err_and}
use Rattle.ledgers.proofs.Accepted.{accepted_book, refused_book}
use Rattle.derivations.proofs.Checking.{day_refused, book_refused, length_refused, steps_checked}
use Rattle.derivations.proofs.check_derivation.Goals as goal

pub returns-then-not-real_date : goal.returns-then-not-real_date
returns-then-not-real_date c = day_refused _ _ _ _ (sym c.real_date.ensures ∙ c.if-not-real_date.true)

pub returns-in_err-sizes : goal.returns-in_err-sizes
returns-in_err-sizes c =
    let p = err_from_is_err_and c.from_residual.result c.from_residual.ensures.1 in
    let day = c.args.day in
    rw (p.1, p.2) (book_refused _ _ _ day (sym c.real_date.ensures ∙ c.if-not-real_date.false) _ (refused_book _ _ day _ (c.read_book.ensures day) _ c.in_err-sizes.was))

pub returns-then-not-length_fits : goal.returns-then-not-length_fits
returns-then-not-length_fits c =
    let day = c.args.day in
    let read = accepted_book _ _ day _ (c.read_book.ensures day) _ c.in_ok-sizes.was in
    length_refused _ _ _ day (sym c.real_date.ensures ∙ c.if-not-real_date.false) _ read (sym c.length_fits.ensures ∙ c.if-not-length_fits.true)

pub returns : goal.returns
returns c =
    let day = c.args.day in
    let read = accepted_book _ _ day _ (c.read_book.ensures day) _ c.in_ok-sizes.was in
    steps_checked _ _ _ day (sym c.real_date.ensures ∙ c.if-not-real_date.false) _ read _ _ (sym c.length_fits.ensures ∙ c.if-not-length_fits.false) c.counted-counted.ensures c.check_steps.ensures

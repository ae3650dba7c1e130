-- The form, one term after another, and then the days.
use mathlib.Core.Path.{sym, ◌∙◌}
use Rattle.std.proofs.lemmas.Result.{err_from_is_err_and}
use Rattle.model.specs.Ledgers.{read_grant}
use Rattle.ledgers.proofs.Readers.{grant_p, grant_q, grant_label, grant_days}
use Rattle.ledgers.proofs.read_grant.Goals as goal

pub returns-then-not-grant_form : goal.returns-then-not-grant_form
unfolding read_grant
returns-then-not-grant_form c = simp (sym c.grant_form.ensures ∙ c.if-not-grant_form.true)

pub returns-in_err-read_at : goal.returns-in_err-read_at
returns-in_err-read_at c =
    let p = err_from_is_err_and c.from_residual.result c.from_residual.ensures.1 in
    rw (p.1, p.2) (grant_p _ _ (sym c.grant_form.ensures ∙ c.if-not-grant_form.false) _ c.in_err-read_at.ensures)

pub returns-in_err-read_at-2 : goal.returns-in_err-read_at-2
returns-in_err-read_at-2 c =
    let p = err_from_is_err_and c.from_residual-in_err-read_at-2.result c.from_residual-in_err-read_at-2.ensures.1 in
    rw (p.1, p.2) (grant_q _ _ (sym c.grant_form.ensures ∙ c.if-not-grant_form.false) _ _ c.in_ok-read_at.ensures c.in_err-read_at-2.ensures)

pub returns-in_err-read_at-3 : goal.returns-in_err-read_at-3
returns-in_err-read_at-3 c =
    let p = err_from_is_err_and c.from_residual-in_err-read_at-3.result c.from_residual-in_err-read_at-3.ensures.1 in
    rw (p.1, p.2) (grant_label _ _ (sym c.grant_form.ensures ∙ c.if-not-grant_form.false) _ _ _ c.in_ok-read_at.ensures c.in_ok-read_at-2.ensures c.in_err-read_at-3.ensures)

pub returns : goal.returns
returns c =
    grant_days _ _ (sym c.grant_form.ensures ∙ c.if-not-grant_form.false) _ _ _ _ c.in_ok-read_at.ensures c.in_ok-read_at-2.ensures c.in_ok-read_at-3.ensures c.read_days.ensures

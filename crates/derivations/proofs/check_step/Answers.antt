-- The refusals in their order, by what each call ensures.
use mathlib.Core.Path.{sym, ◌∙◌}
use Rattle.std.proofs.lemmas.Result.{err_from_is_err_and}
use Rattle.derivations.proofs.Checking.{unread, later, no_grant, ready, last}
use Rattle.derivations.proofs.check_step.Goals as goal

pub returns-in_err-rule : goal.returns-in_err-rule
returns-in_err-rule c l f book =
    let p = err_from_is_err_and c.from_residual.result c.from_residual.ensures.1 in
    rw (p.1, p.2) (unread _ _ _ l f book _ _ _ _ c.in_err-rule.ensures)

pub returns-then-not-premises_before : goal.returns-then-not-premises_before
returns-then-not-premises_before c l f book =
    later _ _ _ l f book _ _ _ _ c.in_ok-rule.ensures (sym c.premises_before.ensures ∙ c.if-not-premises_before.true)

pub returns-in_err-check_grant : goal.returns-in_err-check_grant
returns-in_err-check_grant c l f book =
    let p = err_from_is_err_and c.from_residual-in_err-check_grant.result c.from_residual-in_err-check_grant.ensures.1 in
    rw (p.1, p.2) (no_grant _ _ _ l f book _ _ _ _ c.in_ok-rule.ensures (sym c.premises_before.ensures ∙ c.if-not-premises_before.false) _ c.in_err-check_grant.ensures)

pub returns-then-not-meets : goal.returns-then-not-meets
returns-then-not-meets c l f book =
    let earlier = sym c.premises_before.ensures ∙ c.if-not-premises_before.false in
    let met = c.meets.ensures l (ready _ _ _ l f book c.args.book.derivation.now _ _ _ c.in_ok-rule.ensures earlier _ c.in_ok-check_grant.ensures) in
    rw (last _ _ _ l f book _ _ _ _ c.in_ok-rule.ensures earlier _ c.in_ok-check_grant.ensures _ met, c.if-not-meets.true)

pub returns : goal.returns
returns c l f book =
    let earlier = sym c.premises_before.ensures ∙ c.if-not-premises_before.false in
    let met = c.meets.ensures l (ready _ _ _ l f book c.args.book.derivation.now _ _ _ c.in_ok-rule.ensures earlier _ c.in_ok-check_grant.ensures) in
    rw (last _ _ _ l f book _ _ _ _ c.in_ok-rule.ensures earlier _ c.in_ok-check_grant.ensures _ met, c.if-not-meets.false)

-- The rule and the form, then the two terms.
use mathlib.Core.Path.{◌≡◌, refl, sym, ◌∙◌}
use Rattle.std.specs.Prelude.{Option, Some, None, Err}
use Rattle.std.specs.Option.{ok_or}
use Rattle.std.proofs.lemmas.Result.{err_from_is_err_and}
use Rattle.derivations.specs.declared.Rule.{Rule}
use Rattle.derivations.specs.declared.StepRefusal.{StepRefusal}
use Rattle.derivations.specs.declared.StepRefusal.TheVariants.{Form}
use Rattle.derivations.proofs.Checking.{no_form, form_refused, left_refused, right_refused, step_read}
use Rattle.derivations.proofs.read_step.Goals as goal

-- no rule was found, and the refusal is that of the form
missing : (found : Option Rule) (why : StepRefusal) → Err why ≡ ok_or found Form → (found ≡ None) × (why ≡ Form)
missing None why e = (refl, cc)
missing (Some rule) why e = cc

pub returns-in_err-rule : goal.returns-in_err-rule
returns-in_err-rule c =
    let p = err_from_is_err_and c.from_residual.result c.from_residual.ensures.1 in
    let m = missing _ _ c.in_err-rule.ensures.value in
    rw (p.1, p.2, m.1) (no_form c.args.n c.args.bytes.now (rw m.0 at c.of.ensures))

pub returns-then-not-form : goal.returns-then-not-form
returns-then-not-form c = form_refused _ _ _ (rw c.in_ok-rule.ensures.ok_part at c.of.ensures) (sym c.form.ensures ∙ c.if-not-form.true)

pub returns-in_err-read_field : goal.returns-in_err-read_field
returns-in_err-read_field c =
    let p = err_from_is_err_and c.from_residual-in_err-read_field.result c.from_residual-in_err-read_field.ensures.1 in
    rw (p.1, p.2) (left_refused _ _ _ (rw c.in_ok-rule.ensures.ok_part at c.of.ensures) (sym c.form.ensures ∙ c.if-not-form.false) _ c.in_err-read_field.ensures)

pub returns-in_err-read_field-2 : goal.returns-in_err-read_field-2
returns-in_err-read_field-2 c =
    let p = err_from_is_err_and c.from_residual-in_err-read_field-2.result c.from_residual-in_err-read_field-2.ensures.1 in
    rw (p.1, p.2)
    (right_refused _ _ _ (rw c.in_ok-rule.ensures.ok_part at c.of.ensures) (sym c.form.ensures ∙ c.if-not-form.false) _ _ c.in_ok-read_field.ensures c.in_err-read_field-2.ensures)

pub returns : goal.returns
returns c =
    step_read _ _ _ (rw c.in_ok-rule.ensures.ok_part at c.of.ensures) (sym c.form.ensures ∙ c.if-not-form.false) _ _ c.in_ok-read_field.ensures c.in_ok-read_field-2.ensures

use Rattle.std.proofs.Common.{rules}
use Rattle.derivations.proofs.Rules.{form_is}
use Rattle.derivations.proofs.Step.form.Goals as goal

pub returns-then-fields_form : goal.returns-then-fields_form
returns-then-fields_form c = rw form_is (search rules)

pub returns-else-fields_form : goal.returns-else-fields_form
returns-else-fields_form c = rw form_is (search rules)

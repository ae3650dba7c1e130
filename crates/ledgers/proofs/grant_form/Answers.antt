use Rattle.std.proofs.Common.{rules}
use Rattle.ledgers.proofs.Shapes.{grant_fields}
use Rattle.ledgers.proofs.grant_form.Goals as goal

pub returns-then-term_form-3 : goal.returns-then-term_form-3
returns-then-term_form-3 c = rw grant_fields (search rules)

pub returns-else-term_form-3 : goal.returns-else-term_form-3
returns-else-term_form-3 c = rw grant_fields (search rules)

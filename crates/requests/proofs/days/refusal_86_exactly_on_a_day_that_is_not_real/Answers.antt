use Rattle.requests.proofs.Dating.{bad_day_refused}
use Rattle.requests.proofs.days.refusal_86_exactly_on_a_day_that_is_not_real.Goals as goal

pub returns : goal.returns
returns c = bad_day_refused

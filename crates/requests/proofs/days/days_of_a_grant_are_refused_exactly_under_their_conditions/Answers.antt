use Rattle.requests.proofs.Dating.{days_refused}
use Rattle.requests.proofs.days.days_of_a_grant_are_refused_exactly_under_their_conditions.Goals as goal

pub returns : goal.returns
returns c = days_refused

use Rattle.requests.proofs.Dating.{outside_days_change_nothing}
use Rattle.requests.proofs.days.grants_outside_their_days_change_nothing.Goals as goal

pub returns : goal.returns
returns c = outside_days_change_nothing

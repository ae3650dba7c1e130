use Rattle.requests.proofs.Dating.{next_day_is_least}
use Rattle.requests.proofs.days.the_next_day_is_the_least_real_date_after_a_date.Goals as goal

pub returns : goal.returns
returns c = next_day_is_least

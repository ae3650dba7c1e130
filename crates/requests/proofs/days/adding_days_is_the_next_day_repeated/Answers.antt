use Rattle.requests.proofs.Dating.{adds_days}
use Rattle.requests.proofs.days.adding_days_is_the_next_day_repeated.Goals as goal

pub returns : goal.returns
returns c = adds_days

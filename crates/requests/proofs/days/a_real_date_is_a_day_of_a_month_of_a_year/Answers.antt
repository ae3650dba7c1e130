use Rattle.model.proofs.Dates.{real_says}
use Rattle.requests.proofs.days.a_real_date_is_a_day_of_a_month_of_a_year.Goals as goal

pub returns : goal.returns
returns c = real_says

use Rattle.model.proofs.Dates.{add_sum}
use Rattle.requests.proofs.days.adding_a_then_b_days_is_adding_their_sum.Goals as goal

pub returns : goal.returns
returns c = add_sum

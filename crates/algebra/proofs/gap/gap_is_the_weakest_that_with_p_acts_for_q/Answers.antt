-- Without grants every coalition is asked, and what r holds its supersets hold.
use Rattle.algebra.proofs.Subtraction.{gap-weakest}
use Rattle.algebra.proofs.gap.gap_is_the_weakest_that_with_p_acts_for_q.Goals as goal

pub returns : goal.returns
returns c = gap-weakest

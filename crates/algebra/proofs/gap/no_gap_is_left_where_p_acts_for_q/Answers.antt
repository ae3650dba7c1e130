-- The weakest, of nothing and of p itself.
use Rattle.algebra.proofs.Subtraction.{no_gap}
use Rattle.algebra.proofs.gap.no_gap_is_left_where_p_acts_for_q.Goals as goal

pub returns : goal.returns
returns c = no_gap

-- Single coalitions tell.
use Rattle.algebra.proofs.Subtraction.{spoken-together}
use Rattle.algebra.proofs.gap.spoken_is_acting_for_q_together_with_p.Goals as goal

pub returns : goal.returns
returns c = spoken-together

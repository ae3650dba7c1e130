-- A coalition of a monotone set is one of it exactly if it contains one of it.
use Rattle.algebra.proofs.Subtraction.{gap-held}
use Rattle.algebra.proofs.gap.gap_is_held_where_the_models_is.Goals as goal

pub returns : goal.returns
returns c = gap-held

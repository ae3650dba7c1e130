-- On the change side a projection's voice is what the projection is of.
use Rattle.algebra.proofs.Subtraction.{spoken-sided}
use Rattle.algebra.proofs.gap.spoken_is_acting_for_the_gaps_of_the_voices.Goals as goal

pub returns : goal.returns
returns c = spoken-sided

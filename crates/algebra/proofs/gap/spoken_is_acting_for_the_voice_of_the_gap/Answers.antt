-- To be spoken is to be spoken by the voice of the gap.
use Rattle.algebra.proofs.Subtraction.{spoken-gap}
use Rattle.algebra.proofs.gap.spoken_is_acting_for_the_voice_of_the_gap.Goals as goal

pub returns : goal.returns
returns c = spoken-gap

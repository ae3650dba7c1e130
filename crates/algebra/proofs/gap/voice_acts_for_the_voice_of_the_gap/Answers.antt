-- q acts for what is missing of it, and voices grow with their principals.
use Rattle.algebra.proofs.Subtraction.{voice-gap}
use Rattle.algebra.proofs.gap.voice_acts_for_the_voice_of_the_gap.Goals as goal

pub returns : goal.returns
returns c = voice-gap

-- The voice of the algebra is held where document 01 says.
use Rattle.algebra.proofs.Exact.{spoken-voice}
use Rattle.algebra.proofs.spoken_by_the_voice_is_acting_for_it.Goals as goal

pub returns : goal.returns
returns c = spoken-voice

use Rattle.requests.proofs.Keeping.{sound_is_number_0}
use Rattle.requests.proofs.live.sound_is_number_0.Goals as goal

pub returns : goal.returns
returns c = sound_is_number_0

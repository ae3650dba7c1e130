use Rattle.requests.proofs.Speaking.{voice_still_speaks}
use Rattle.requests.proofs.gap.what_the_voice_spoke_the_gap_speaks.Goals as goal

pub returns : goal.returns
returns c = voice_still_speaks

use Rattle.requests.proofs.Speaking.{static_grants}
use Rattle.requests.proofs.gap.static_grants_are_spoken_and_change_nothing.Goals as goal

pub returns : goal.returns
returns c = static_grants

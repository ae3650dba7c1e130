use Rattle.requests.proofs.Speaking.{yes_stays}
use Rattle.requests.proofs.gap.each_yes_stays.Goals as goal

pub returns : goal.returns
returns c = yes_stays

use Rattle.requests.proofs.Speaking.{single_coalitions_tell}
use Rattle.requests.proofs.gap.single_coalitions_tell_whether_a_grant_is_spoken.Goals as goal

pub returns : goal.returns
returns c = single_coalitions_tell

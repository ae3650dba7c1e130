use Rattle.requests.proofs.Places.{more_for_fewer}
use Rattle.requests.proofs.quorums.a_quorum_of_more_acts_for_one_of_fewer.Goals as goal

pub returns : goal.returns
returns c = more_for_fewer

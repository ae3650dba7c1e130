use Rattle.requests.proofs.Places.{left_to_right}
use Rattle.requests.proofs.quorums.a_quorum_is_refused_from_left_to_right.Goals as goal

pub returns : goal.returns
returns c = left_to_right

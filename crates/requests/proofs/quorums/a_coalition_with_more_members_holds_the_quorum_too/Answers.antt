use Rattle.requests.proofs.Places.{more_members_hold}
use Rattle.requests.proofs.quorums.a_coalition_with_more_members_holds_the_quorum_too.Goals as goal

pub returns : goal.returns
returns c = more_members_hold

use Rattle.requests.proofs.Tried.{quorum_cases}
use Rattle.requests.proofs.quorums.worked_cases.Goals as goal

pub returns : goal.returns
returns c = quorum_cases

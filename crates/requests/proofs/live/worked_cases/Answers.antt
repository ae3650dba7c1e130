use Rattle.requests.proofs.Tried.{live_cases}
use Rattle.requests.proofs.live.worked_cases.Goals as goal

pub returns : goal.returns
returns c = live_cases

use Rattle.requests.proofs.Tried.{gap_cases}
use Rattle.requests.proofs.gap.worked_cases.Goals as goal

pub returns : goal.returns
returns c = gap_cases

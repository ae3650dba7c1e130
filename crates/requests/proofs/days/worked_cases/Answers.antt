use Rattle.requests.proofs.Tried.{day_cases}
use Rattle.requests.proofs.days.worked_cases.Goals as goal

pub returns : goal.returns
returns c = day_cases

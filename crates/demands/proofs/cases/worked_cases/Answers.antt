-- The cases are evaluated in the law that this cites.
use Rattle.demands.proofs.Tried.{worked_cases}
use Rattle.demands.proofs.cases.worked_cases.Goals as goal

pub returns : goal.returns
returns c = worked_cases

use Rattle.requests.proofs.Tried.{test_cases}
use Rattle.requests.proofs.testing.worked_cases.Goals as goal

pub returns : goal.returns
returns c = test_cases

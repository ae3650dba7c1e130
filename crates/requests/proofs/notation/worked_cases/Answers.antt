use Rattle.requests.proofs.Tried.{notation_cases}
use Rattle.requests.proofs.notation.worked_cases.Goals as goal

pub returns : goal.returns
returns c = notation_cases

-- The cases are evaluated in the law that this cites.
use Rattle.demands.proofs.Tried.{wrong_turns}
use Rattle.demands.proofs.cases.wrong_turns_answer_otherwise.Goals as goal

pub returns : goal.returns
returns c = wrong_turns

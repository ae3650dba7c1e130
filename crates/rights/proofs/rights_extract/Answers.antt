use Rattle.model.specs.Answers.{number}
use Rattle.refusals.specs.Results.{answer_of}
use Rattle.model.proofs.Outcomes.{outcome_number}
use Rattle.rights.proofs.rights_extract.Goals as goal

pub returns-in-Ok-clause-answered : goal.returns-in-Ok-clause-answered
unfolding number
returns-in-Ok-clause-answered c = (outcome_number (answer_of c.extract.result) _ _ c.extract.ensures 0 (rw c.in-Ok.is)).0

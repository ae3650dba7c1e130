use Rattle.demands.proofs.Comparing.{short_questions_decide}
use Rattle.demands.proofs.extracts.equal_answers_to_short_questions_give_equal_extracts.Goals as goal

pub returns : goal.returns
returns c = short_questions_decide

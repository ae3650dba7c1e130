use Rattle.demands.proofs.Figures.{questions_answered}
use Rattle.demands.proofs.numbers.a_question_gets_yes_no_or_a_refusal_of_its_list.Goals as goal

pub returns : goal.returns
returns c = questions_answered

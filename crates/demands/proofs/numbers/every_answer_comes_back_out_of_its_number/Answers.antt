use Rattle.demands.proofs.Figures.{answers_come_back}
use Rattle.demands.proofs.numbers.every_answer_comes_back_out_of_its_number.Goals as goal

pub returns : goal.returns
returns c = answers_come_back

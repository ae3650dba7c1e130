use Rattle.demands.proofs.Figures.{extracts_answered}
use Rattle.demands.proofs.numbers.an_extract_is_written_or_gets_a_refusal_of_its_list.Goals as goal

pub returns : goal.returns
returns c = extracts_answered

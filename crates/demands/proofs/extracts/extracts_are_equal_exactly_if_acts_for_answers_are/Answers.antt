use Rattle.demands.proofs.Comparing.{extracts_decide_acts_for}
use Rattle.demands.proofs.extracts.extracts_are_equal_exactly_if_acts_for_answers_are.Goals as goal

pub returns : goal.returns
returns c = extracts_decide_acts_for

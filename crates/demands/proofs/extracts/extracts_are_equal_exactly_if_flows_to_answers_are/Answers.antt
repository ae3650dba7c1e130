use Rattle.demands.proofs.Comparing.{extracts_decide_flows_to}
use Rattle.demands.proofs.extracts.extracts_are_equal_exactly_if_flows_to_answers_are.Goals as goal

pub returns : goal.returns
returns c = extracts_decide_flows_to

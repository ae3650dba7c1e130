use Rattle.demands.proofs.Comparing.{same_pairs_same_rights}
use Rattle.demands.proofs.extracts.equal_pairs_give_equal_extracts_and_answers.Goals as goal

pub returns : goal.returns
returns c = same_pairs_same_rights

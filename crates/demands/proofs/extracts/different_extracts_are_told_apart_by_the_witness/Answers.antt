use Rattle.demands.proofs.Comparing.{different_told_apart}
use Rattle.demands.proofs.extracts.different_extracts_are_told_apart_by_the_witness.Goals as goal

pub returns : goal.returns
returns c = different_told_apart

use Rattle.words.proofs.Packing.{lowest-bit}
use Rattle.words.proofs.lowest.Goals as goal

pub returns : goal.returns
returns c = lowest-bit _

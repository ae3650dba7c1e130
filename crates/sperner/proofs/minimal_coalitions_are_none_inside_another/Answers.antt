use Rattle.sperner.proofs.Forms.{minimal_antichain}
use Rattle.sperner.proofs.minimal_coalitions_are_none_inside_another.Goals as goal

pub returns : goal.returns
returns c = minimal_antichain

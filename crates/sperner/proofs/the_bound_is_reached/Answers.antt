use Rattle.sperner.proofs.Families.{bound_reached}
use Rattle.sperner.proofs.the_bound_is_reached.Goals as goal

pub returns : goal.returns
returns c = bound_reached

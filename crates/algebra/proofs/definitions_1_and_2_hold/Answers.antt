-- What the rules do not say of themselves is derived.
use Rattle.algebra.proofs.Principals.{projection_laws}
use Rattle.algebra.proofs.definitions_1_and_2_hold.Goals as goal

pub returns : goal.returns
returns c = projection_laws

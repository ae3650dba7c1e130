-- The judge asks the coalitions, and they decide the algebra.
use Rattle.algebra.proofs.Exact.{yes_acts}
use Rattle.algebra.proofs.acts_for_yes_is_the_algebras.Goals as goal

pub returns : goal.returns
returns c = yes_acts

-- The judge asks the coalitions, the see side the other way round.
use Rattle.algebra.proofs.Exact.{yes_flows}
use Rattle.algebra.proofs.flows_to_yes_is_the_algebras.Goals as goal

pub returns : goal.returns
returns c = yes_flows

-- Definition 3 is acts-for across the sides.
use Rattle.algebra.proofs.Exact.{by_flows_to}
use Rattle.algebra.proofs.flows_to_is_decided_by_coalitions.Goals as goal

pub returns : goal.returns
returns c = by_flows_to

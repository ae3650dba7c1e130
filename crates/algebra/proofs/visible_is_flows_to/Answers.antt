-- Visible is Definition 3 without grants.
use Rattle.algebra.proofs.Exact.{visible_flows}
use Rattle.algebra.proofs.visible_is_flows_to.Goals as goal

pub returns : goal.returns
returns c = visible_flows

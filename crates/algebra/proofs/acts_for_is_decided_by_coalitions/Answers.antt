-- The algebra is sound and complete for the coalitions.
use Rattle.algebra.proofs.Exact.{by_acts_for}
use Rattle.algebra.proofs.acts_for_is_decided_by_coalitions.Goals as goal

pub returns : goal.returns
returns c = by_acts_for

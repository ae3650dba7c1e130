-- Without grants every coalition is sound.
use Rattle.algebra.proofs.Exact.{static_acts}
use Rattle.algebra.proofs.statically_is_without_grants.Goals as goal

pub returns : goal.returns
returns c = static_acts

-- From the weakest by the algebra's rules.
use Rattle.algebra.proofs.Subtraction.{gap-subtraction}
use Rattle.algebra.proofs.gap.gap_is_flams_subtraction.Goals as goal

pub returns : goal.returns
returns c = gap-subtraction

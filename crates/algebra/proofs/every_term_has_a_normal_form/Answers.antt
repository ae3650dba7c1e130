-- A term is its parts without projections, one on each side.
use Rattle.algebra.proofs.Sides.{normal_form}
use Rattle.algebra.proofs.every_term_has_a_normal_form.Goals as goal

pub returns : goal.returns
returns c = normal_form

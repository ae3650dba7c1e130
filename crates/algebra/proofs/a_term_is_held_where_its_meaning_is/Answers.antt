-- At least k of m are held exactly if one of the boths of k of them is.
use Rattle.algebra.proofs.Meanings.{meaning_held}
use Rattle.algebra.proofs.a_term_is_held_where_its_meaning_is.Goals as goal

pub returns : goal.returns
returns c = meaning_held

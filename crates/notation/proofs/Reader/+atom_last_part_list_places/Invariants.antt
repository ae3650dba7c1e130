-- The measure is the characters left, and then the rank: a place is read by its either-list, that by its both-lists, and those by their atoms.
use Rattle.std.proofs.Common.{◌+◌, ◌-◌, ◌*◌, length}
use Rattle.model.specs.Texts.{join_rank}
use Rattle.terms.specs.Joiners.{kind}
use Rattle.notation.proofs.Reader.+atom_last_part_list_places.Given as goal

abbrev pub decreases-atom : goal.decreases-atom
decreases-atom l = length l.self.now.left * 6

abbrev pub decreases-last_part : goal.decreases-last_part
decreases-last_part l = length l.self.now.left * 6 + (2 * join_rank (kind l.joiner) - 1)

abbrev pub decreases-list : goal.decreases-list
decreases-list l = length l.self.now.left * 6 + 2 * join_rank (kind l.joiner)

abbrev pub decreases-places : goal.decreases-places
decreases-places l = length l.self.now.left * 6 + 5

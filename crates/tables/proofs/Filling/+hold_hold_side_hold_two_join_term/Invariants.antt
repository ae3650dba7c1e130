-- The measure is the number of codes left, three times, and where these do not fall which of the four functions it is: it falls at each call.
use Prim.Native.Nat.{◌+◌, ◌-◌, ◌*◌}
use lib.ListN.{length}
use Rattle.tables.proofs.Filling.+hold_hold_side_hold_two_join_term.Given as goal

abbrev pub decreases-hold : goal.decreases-hold
decreases-hold l = 3 * (length l.self.now.codes.now - l.at)

abbrev pub decreases-hold_side : goal.decreases-hold_side
decreases-hold_side l = 3 * (length l.self.now.codes.now - l.at) + 1

abbrev pub decreases-hold_two : goal.decreases-hold_two
decreases-hold_two l = 3 * (length l.self.now.codes.now - l.at) + 2

abbrev pub decreases-join_term : goal.decreases-join_term
decreases-join_term l = 3 * (length l.self.now.codes.now - l.at) + 1

-- The measure is the number of codes left, three times, and where these do not fall what tells a code that is left over from the others: it falls at each
-- call. The invariant: the parts from `next` on, as many as are left, are still to be weighed.
use Rattle.std.proofs.Common.{◌+◌, ◌-◌, ◌*◌, ◌≤◌, length, get_or}
use Rattle.words.proofs.Behind.{behind}
use Rattle.words.proofs.Tallies.{Weighing}
use Rattle.words.proofs.+hold_hold_quorum.Given as goal

abbrev pub decreases-hold : goal.decreases-hold
decreases-hold l = 3 * (length l.codes.now - l.at) + 1

abbrev pub decreases-hold_quorum : goal.decreases-hold_quorum
decreases-hold_quorum l = 3 * (length l.codes.now - l.at) + behind l.codes.now l.at

abbrev pub invariant-hold_quorum-loop : goal.invariant-hold_quorum-loop
invariant-hold_quorum-loop l =
    (l.k ≤ 12) × Weighing l.codes (l.at + 3) (get_or l.codes (l.at + 2) 0) l.g l.k (get_or l.codes (l.at + 2) 0 - l.counter) l.next l.table

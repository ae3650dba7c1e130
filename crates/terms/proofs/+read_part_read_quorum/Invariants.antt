-- The measure is the number of codes left from `at` on, three times, and where these do not fall whose turn it is. The invariant of the loop of
-- `read_part`: the reading at `at` is the reading at `here`; of that of `read_quorum`: the parts from `next` on that are still to be read are what is left to read.
use Rattle.std.proofs.Common.{◌≡◌, ◌+◌, ◌-◌, ◌*◌, ◌<◌, ◌≤◌, length}
use Rattle.terms.specs.Readings.{part_at, parts_at}
use Rattle.terms.proofs.Places.{turn_at}
use Rattle.terms.proofs.+read_part_read_quorum.Given as goal

abbrev pub decreases-read_part : goal.decreases-read_part
decreases-read_part l = 3 * (length l.codes.now - l.at) + 1

abbrev pub decreases-read_quorum : goal.decreases-read_quorum
decreases-read_quorum l = 3 * (length l.codes.now - l.at) + turn_at l.codes.now l.at l.n

abbrev pub invariant-read_part-loop-here : goal.invariant-read_part-loop-here
invariant-read_part-loop-here l = (l.at ≤ l.here) × (part_at l.codes l.here l.n ≡ part_at l.codes l.at l.n)

abbrev pub decreases-read_part-loop-here : goal.decreases-read_part-loop-here
decreases-read_part-loop-here l = length l.codes - l.here

abbrev pub invariant-read_quorum-loop : goal.invariant-read_quorum-loop
invariant-read_quorum-loop l = (l.at < l.next) × (l.next ≤ length l.codes) × (part_at l.codes l.at l.n ≡ parts_at l.codes l.next l.n (l.parts - l.counter))

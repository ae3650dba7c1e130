-- The measure is the codes left, 32 times, so that each part of a quorum is before its next ones.
use Rattle.std.proofs.Common.{◌+◌, ◌*◌, length}
use Rattle.writing.proofs.Writer.+part_places_quorum.Given as goal

abbrev pub decreases-part : goal.decreases-part
decreases-part l = 32 * length l.self.now.codes + 1

abbrev pub decreases-places : goal.decreases-places
decreases-places l = 32 * length l.self.now.codes + 2 + l.left

abbrev pub decreases-quorum : goal.decreases-quorum
decreases-quorum l = 32 * length l.self.now.codes

-- The measure is what is left of the packed bytes.
use Rattle.std.proofs.Common.{length, ◌≤◌, ◌≡◌}
use Rattle.cases.proofs.unpack.Given as goal

abbrev pub invariant-loop-rest : goal.invariant-loop-rest
invariant-loop-rest l = (l.made ≤ length l.initial.to) × (length l.to ≡ length l.initial.to)

abbrev pub decreases-loop-rest : goal.decreases-loop-rest
decreases-loop-rest l = length l.rest

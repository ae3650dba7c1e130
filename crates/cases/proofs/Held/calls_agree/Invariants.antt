-- The measure is what is left of the calls.
use Rattle.std.proofs.Common.{length}
use Rattle.cases.proofs.Held.calls_agree.Given as goal

abbrev pub decreases-loop-rest : goal.decreases-loop-rest
decreases-loop-rest l = length l.rest

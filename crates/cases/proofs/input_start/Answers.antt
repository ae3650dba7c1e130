use Rattle.std.proofs.Common.{arith, refl}
use Rattle.cases.specs.Records.{input_start}
use Rattle.cases.proofs.Inputs.{start_more}
use Rattle.cases.proofs.input_start.Goals as goal

pub loop-i-init : goal.loop-i-init
unfolding input_start
loop-i-init c = (omega arith, omega arith, refl)

pub loop-i-preserved : goal.loop-i-preserved
loop-i-preserved c = (omega arith, omega arith, start_more _ _ _ _ c.loop-i.invariant.2 c.input_length.ensures)

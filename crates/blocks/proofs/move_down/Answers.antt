use native.Mathlib.Omega.{arith}
use Rattle.blocks.proofs.Writing.{moved_more}
use Rattle.blocks.proofs.move_down.Goals as goal

pub loop-k-preserved : goal.loop-k-preserved
loop-k-preserved c = λ h.
    let l = c.loop-k in
    let a = c.args in
    moved_more a.ledger.now l.ledger a.at l.k (omega arith) (l.invariant h)

use borrow.Author.Tests.{eq-eqb}
use Rattle.model.specs.Ledgers.{checked, check_of}
use Rattle.checks.proofs.block_check.Goals as goal

pub returns : goal.returns
unfolding checked check_of
returns c =
    let whole = c.in-Ok.ensures.1 in
    simp (eq-eqb _ _ whole.long) (rw (c.two_bytes.ensures, c.weight.ensures, whole.same))

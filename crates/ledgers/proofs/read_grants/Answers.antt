use native.Mathlib.Omega.{arith}
use Rattle.std.proofs.lemmas.Result.{err_from_is_err_and}
use Rattle.ledgers.proofs.Readers.{grants_stop, grants_more, grants_end}
use Rattle.ledgers.proofs.read_grants.Goals as goal

pub returns-in_err-read_grant : goal.returns-in_err-read_grant
returns-in_err-read_grant c =
    let p = err_from_is_err_and c.from_residual.result c.from_residual.ensures.1 in
    rw (p.1, p.2) (grants_stop _ c.args.grants.now _ _ c.loop-block.invariant (omega arith) _ c.in_err-read_grant.ensures)

pub loop-block-preserved : goal.loop-block-preserved
loop-block-preserved c = grants_more _ c.args.grants.now _ _ c.loop-block.invariant (omega arith) _ c.in_ok-read_grant.ensures

pub returns : goal.returns
returns c = grants_end _ c.args.grants.now _ _ c.loop-block.invariant (omega arith)

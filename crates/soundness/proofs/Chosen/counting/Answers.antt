-- The refusals of the ledger and of the label, and then what is chosen.
use Rattle.std.proofs.lemmas.Result.{err_from_is_err_and}
use Rattle.soundness.proofs.Accepted.{counting-refused, counting-chosen}
use Rattle.soundness.proofs.Chosen.counting.Goals as goal

pub returns-in_err-sizes : goal.returns-in_err-sizes
returns-in_err-sizes c =
    let d = c.args.day in
    let x = err_from_is_err_and c.from_residual.result c.from_residual.ensures.1 in
    rw (x.1, x.2) (counting-refused _ _ d _ (c.read_book.ensures d) _ c.in_err-sizes.was)

pub returns : goal.returns
returns c =
    let d = c.args.day in
    rw c.counted.ensures (counting-chosen _ _ d _ (c.read_book.ensures d) _ c.in_ok-sizes.was)

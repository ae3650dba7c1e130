-- Each return is a case of `read_term`, by the length and by the reading at place 0.
use Rattle.std.proofs.Common.{sym, arith}
use Rattle.std.proofs.lemmas.Result.{err_from_is_err_and}
use Rattle.terms.proofs.Places.{term_sized, term_stop, term_more, term_done}
use Rattle.terms.proofs.read_term.Goals as goal

pub returns-then-is_empty : goal.returns-then-is_empty
returns-then-is_empty c = sym (term_sized c.args.codes.now c.args.n (grind arith))

pub returns-in_err-read_part : goal.returns-in_err-read_part
returns-in_err-read_part c =
    let p = err_from_is_err_and c.from_residual.result c.from_residual.ensures.1 in
    rw (p.1, p.2) (sym (term_stop c.args.codes.now c.args.n (grind arith) (omega arith) _ (sym c.in_err-read_part.ensures)))

pub returns-then-branch-codes : goal.returns-then-branch-codes
returns-then-branch-codes c =
    sym (term_more c.args.codes.now c.args.n (grind arith) (omega arith) _ (sym c.in_ok-read_part.ensures) c.if-branch-codes.true)

pub returns : goal.returns
returns c = sym (term_done c.args.codes.now c.args.n (grind arith) (omega arith) _ (sym c.in_ok-read_part.ensures) c.if-branch-codes.false)

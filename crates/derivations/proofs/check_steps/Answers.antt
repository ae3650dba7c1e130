use native.Mathlib.Omega.{arith}
use mathlib.Core.Path.{sym, ◌∙◌}
use Rattle.std.proofs.Common.{rules}
use Rattle.std.proofs.lemmas.Result.{err_from_is_err_and}
use Rattle.derivations.proofs.Checking.{step_here, steps_start, steps_more, steps_end, step_stopped, step_passed}
use Rattle.derivations.proofs.check_steps.Goals as goal

pub loop-k-init : goal.loop-k-init
loop-k-init c l f book = steps_start l f _

pub returns-in_err-map_err : goal.returns-in_err-map_err
returns-in_err-map_err c l f book =
    let p = err_from_is_err_and c.from_residual.result c.from_residual.ensures.1 in
    rw (p.1, p.2, ← c.loop-k.invariant l f book, steps_more l f c.args.book.derivation.now c.loop-k.k-counter (omega (arith, c.as_chunks.ensures.front_len)), ← step_here _ _ c.as_chunks.ensures.front c.loop-k.k-counter (omega arith))
    (step_stopped c.loop-k.k-counter _ (λ why y q. search rules) _ _ c.check_step.result c.map_err.result (c.check_step.ensures l f book) c.map_err.ensures.cases _ c.in_err-map_err.was)

pub loop-k-preserved : goal.loop-k-preserved
loop-k-preserved c l f book =
    rw (← c.loop-k.invariant l f book, steps_more l f c.args.book.derivation.now c.loop-k.k-counter (omega (arith, c.as_chunks.ensures.front_len)), ← step_here _ _ c.as_chunks.ensures.front c.loop-k.k-counter (omega arith))
    (sym (step_passed c.loop-k.k-counter _ (λ why y q. search rules) _ _ c.check_step.result c.map_err.result (c.check_step.ensures l f book) c.map_err.ensures.cases _ c.in_ok-map_err.was))

pub returns : goal.returns
returns c l f book = sym (steps_end l f c.args.book.derivation.now c.loop-k.k-counter (omega (arith, c.as_chunks.ensures.front_len))) ∙ c.loop-k.invariant l f book

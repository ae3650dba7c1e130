-- The refusals in their order, and what is given where nothing is refused.
use mathlib.Core.Path.{◌∙◌}
use Rattle.std.proofs.lemmas.Result.{err_from_is_err_and}
use Rattle.model.specs.Terms.{read_term}
use Rattle.refusals.specs.declared.Refusal.TheVariants.{P, Q}
use Rattle.refusals.proofs.Results.{Accepted}
use Rattle.terms.proofs.Accepted.{accepted_as, refused_as}
use Rattle.questions.proofs.Asking.{verdict_answers}
use Rattle.live.specs.Held.{live_of}
use Rattle.live.proofs.Stepping.{stored_live, small_live}
use Rattle.live.proofs.Asking.{ask_p, ask_q, ask_answer}
use Rattle.live.proofs.ask.Goals as goal
use Rattle.live.proofs.ask.Goals.{In_ok-map_err, In_ok-map_err-2}

-- p and q, where they were accepted
first : (c : In_ok-map_err) → let a = c.args in Accepted (read_term a.live.names a.p.now)
first c = accepted_as _ _ _ c.read_term.ensures P _ c.map_err.ensures.cases _ c.in_ok-map_err.was

second : (c : In_ok-map_err-2) → let a = c.args in Accepted (read_term a.live.names a.q.now)
second c = accepted_as _ _ _ c.read_term-2.ensures Q _ c.map_err-2.ensures.cases _ c.in_ok-map_err-2.was

pub returns-in_err-map_err : goal.returns-in_err-map_err
returns-in_err-map_err c x ledger h =
    let a = c.args in
    let y = err_from_is_err_and c.from_residual.result c.from_residual.ensures.1 in
    let r = refused_as _ _ _ c.read_term.ensures P _ c.map_err.ensures.cases _ c.in_err-map_err.was in
    rw (y.1, y.2, r.1) (ask_p a.live ledger a.numbers.now x h a.p.now a.q.now (live_of a.relation) _ r.2)

pub returns-in_err-map_err-2 : goal.returns-in_err-map_err-2
returns-in_err-map_err-2 c x ledger h =
    let a = c.args in
    let tp = first (goal.at.returns-in_err-map_err-2 c).In_ok-map_err in
    let y = err_from_is_err_and c.from_residual-in_err-map_err-2.result c.from_residual-in_err-map_err-2.ensures.1 in
    let r = refused_as _ _ _ c.read_term-2.ensures Q _ c.map_err-2.ensures.cases _ c.in_err-map_err-2.was in
    rw (y.1, y.2, r.1) (ask_q a.live ledger a.numbers.now x h a.p.now a.q.now tp.value tp.is (live_of a.relation) _ r.2)

pub returns : goal.returns
returns c x ledger h =
    let a = c.args in
    let tp = first (goal.at.returns c).In_ok-map_err in
    let tq = second (goal.at.returns c).In_ok-map_err-2 in
    verdict_answers c.judge.result
    ∙ ask_answer a.live ledger a.numbers.now x h a.p.now a.q.now tp.value tp.is a.relation c.judge.result tq.value tq.is (c.judge.ensures x.numbers (stored_live _ ledger _ x h) (small_live _ ledger _ x h))

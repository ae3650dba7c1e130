-- The refusals in their order, and the answer where nothing is refused.
use mathlib.Core.Path.{◌≡◌, refl, sym, ap, ◌∙◌}
use mathlib.Core.Bool.{true}
use Rattle.std.proofs.lemmas.Result.{err_from_is_err_and}
use Rattle.model.specs.Dates.{real_date}
use Rattle.model.specs.Terms.{read_term}
use Rattle.model.specs.Questions.{answer_to}
use Rattle.refusals.specs.declared.Refusal.TheVariants.{P, Q, Label}
use Rattle.refusals.proofs.Results.{Accepted}
use Rattle.terms.proofs.Accepted.{accepted_as, refused_as}
use Rattle.ledgers.proofs.Accepted.{AcceptedLedger, accepted_ledger, refused_ledger}
use Rattle.counting.proofs.Accepted.{grants_few}
use Rattle.counting.proofs.Knowing.{known_nothing}
use Rattle.questions.proofs.Asking.{judged_asked, verdict_answers, ask_day, ask_ledger, ask_p, ask_q, ask_label, ask_answer}
use Rattle.questions.proofs.ask.Goals as goal
use Rattle.questions.proofs.ask.Goals.{Else-not-real_date, In_ok-sizes, In_ok-map_err, In_ok-map_err-2, In_ok-map_err-3}

pub returns-then-not-real_date : goal.returns-then-not-real_date
returns-then-not-real_date c = ask_day _ _ _ _ _ _ (sym c.real_date.ensures ∙ c.if-not-real_date.true)

-- no refusal 86
real : (c : Else-not-real_date) → real_date c.args.day ≡ true
real c = sym c.real_date.ensures ∙ c.if-not-real_date.false

pub returns-in_err-sizes : goal.returns-in_err-sizes
returns-in_err-sizes c =
    let x = err_from_is_err_and c.from_residual.result c.from_residual.ensures.1 in
    rw (x.1, x.2) (ask_ledger _ _ _ _ _ _ (real (goal.at.returns-in_err-sizes c).Else-not-real_date) _ (refused_ledger _ _ c.read_ledger.ensures _ c.in_err-sizes.was))

-- the ledger, p, q and the label, where they were accepted
book : (c : In_ok-sizes) → AcceptedLedger c.args.ledger.now c.in_ok-sizes.sizes
book c = accepted_ledger _ _ c.read_ledger.ensures _ c.in_ok-sizes.was

first : (c : In_ok-map_err) → Accepted (read_term c.in_ok-sizes.sizes.names c.args.p.now)
first c = accepted_as _ _ _ c.read_term.ensures P _ c.map_err.ensures.cases _ c.in_ok-map_err.was

second : (c : In_ok-map_err-2) → Accepted (read_term c.in_ok-sizes.sizes.names c.args.q.now)
second c = accepted_as _ _ _ c.read_term-2.ensures Q _ c.map_err-2.ensures.cases _ c.in_ok-map_err-2.was

third : (c : In_ok-map_err-3) → Accepted (read_term c.in_ok-sizes.sizes.names c.args.label.now)
third c = accepted_as _ _ _ c.read_term-3.ensures Label _ c.map_err-3.ensures.cases _ c.in_ok-map_err-3.was

pub returns-in_err-map_err : goal.returns-in_err-map_err
returns-in_err-map_err c =
    let g = goal.at.returns-in_err-map_err c in
    let l = book g.In_ok-sizes in
    let x = err_from_is_err_and c.from_residual-in_err-map_err.result c.from_residual-in_err-map_err.ensures.1 in
    let r = refused_as _ _ _ c.read_term.ensures P _ c.map_err.ensures.cases _ c.in_err-map_err.was in
    rw (x.1, x.2, r.1) (ask_p _ _ _ _ _ _ (real g.Else-not-real_date) l.ledger _ l.of.is (sym l.of.names) _ r.2)

pub returns-in_err-map_err-2 : goal.returns-in_err-map_err-2
returns-in_err-map_err-2 c =
    let g = goal.at.returns-in_err-map_err-2 c in
    let l = book g.In_ok-sizes in
    let tp = first g.In_ok-map_err in
    let x = err_from_is_err_and c.from_residual-in_err-map_err-2.result c.from_residual-in_err-map_err-2.ensures.1 in
    let r = refused_as _ _ _ c.read_term-2.ensures Q _ c.map_err-2.ensures.cases _ c.in_err-map_err-2.was in
    rw (x.1, x.2, r.1) (ask_q _ _ _ _ _ _ (real g.Else-not-real_date) l.ledger _ l.of.is (sym l.of.names) tp.value tp.is _ r.2)

pub returns-in_err-map_err-3 : goal.returns-in_err-map_err-3
returns-in_err-map_err-3 c =
    let g = goal.at.returns-in_err-map_err-3 c in
    let l = book g.In_ok-sizes in
    let tp = first g.In_ok-map_err in
    let tq = second g.In_ok-map_err-2 in
    let x = err_from_is_err_and c.from_residual-in_err-map_err-3.result c.from_residual-in_err-map_err-3.ensures.1 in
    let r = refused_as _ _ _ c.read_term-3.ensures Label _ c.map_err-3.ensures.cases _ c.in_err-map_err-3.was in
    rw (x.1, x.2, r.1) (ask_label _ _ _ _ _ _ (real g.Else-not-real_date) l.ledger _ l.of.is (sym l.of.names) tp.value tp.is tq.value tq.is _ r.2)

pub returns : goal.returns
returns c =
    let g = goal.at.returns c in
    let l = book g.In_ok-sizes in
    let tp = first g.In_ok-map_err in
    let tq = second g.In_ok-map_err-2 in
    let L = third g.In_ok-map_err-3 in
    let a = c.args in
    verdict_answers c.first_refuter.result
    ∙ ap answer_to (c.first_refuter.ensures _ (record { few = grants_few _ _ _ _ l.of; is = λ s c. refl; so = rw c.nothing.ensures (known_nothing _) }))
    ∙ judged_asked a.relation _ _ _ _ _ _ _ l.ledger tp.value tq.value L.value l.of tp.is tq.is L.is
    ∙ ask_answer _ _ _ _ _ _ (real g.Else-not-real_date) l.ledger _ l.of.is (sym l.of.names) tp.value tp.is tq.value tq.is L.value L.is

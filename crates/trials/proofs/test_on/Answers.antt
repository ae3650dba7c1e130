-- The refusals in their order, and then the test.
use Rattle.std.proofs.Common.{◌≡◌, true, sym, ◌∙◌}
use Rattle.std.proofs.lemmas.Result.{err_from_is_err_and}
use Rattle.model.specs.Dates.{real_date}
use Rattle.soundness.proofs.Accepted.{ChosenCounting, chosen_accepted, chosen_refused}
use Rattle.trials.proofs.Verdicts.{day_refused, book_refused, tested_on, tested_fits}
use Rattle.trials.proofs.test_on.Goals as goal
use Rattle.trials.proofs.test_on.Goals.{Else-not-real_date, In_ok-chosen}

pub returns-then-not-real_date-clause-said : goal.returns-then-not-real_date-clause-said
returns-then-not-real_date-clause-said c = day_refused _ _ _ _ _ (sym c.real_date.ensures ∙ c.if-not-real_date.true)

-- no refusal 86
real : (c : Else-not-real_date) → real_date c.args.day ≡ true
real c = sym c.real_date.ensures ∙ c.if-not-real_date.false

pub returns-in_err-chosen-clause-said : goal.returns-in_err-chosen-clause-said
returns-in_err-chosen-clause-said c =
    let x = err_from_is_err_and c.from_residual.result c.from_residual.ensures.1 in
    rw (x.1, x.2) (book_refused _ _ _ _ _ (real (goal.at.returns-in_err-chosen-clause-said c).Else-not-real_date) _ (chosen_refused _ _ _ _ c.counting.ensures _ c.in_err-chosen.was))

-- nothing can be refused any more
counting : (c : In_ok-chosen) → ChosenCounting c.args.ledger.now c.args.label.now c.args.day c.in_ok-chosen.chosen
counting c = chosen_accepted _ _ _ _ c.counting.ensures _ c.in_ok-chosen.was

pub returns-clause-said : goal.returns-clause-said
returns-clause-said c =
    let p = goal.at.returns-clause-said c in
    tested_on _ _ _ _ _ (real p.Else-not-real_date) _ (counting p.In_ok-chosen) _ c.test_coalition.ensures

pub returns-clause-few : goal.returns-clause-few
returns-clause-few c =
    let p = goal.at.returns-clause-few c in
    tested_fits _ _ _ _ _ (real p.Else-not-real_date) _ (counting p.In_ok-chosen) _ c.test_coalition.ensures

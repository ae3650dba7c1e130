-- The refusals in their order, and what is given where nothing is refused.
use mathlib.Core.Path.{◌≡◌, refl, sym, ◌∙◌}
use lib.Dec.{leb}
use lib.ListN.{replicate}
use borrow.Author.Tests.{leb-true}
use Rattle.model.proofs.Truth.{and_right}
use mathlib.Core.Bool.{true, false}
use Rattle.std.proofs.Common.{rules}
use Rattle.std.proofs.lemmas.Result.{err_from_is_err_and}
use Rattle.model.specs.Terms.{job_size, read_term}
use Rattle.refusals.specs.declared.Refusal.TheVariants.{Label}
use Rattle.refusals.proofs.Results.{Accepted}
use Rattle.terms.proofs.Accepted.{accepted_as, refused_as}
use Rattle.live.proofs.Making.{made_day, made_names, made_label, made_new, label_short}
use Rattle.live.proofs.make.Goals as goal
use Rattle.live.proofs.make.Goals.{In_ok-map_err}

-- the label, where it was accepted
read : (c : In_ok-map_err) → let a = c.args in Accepted (read_term a.n a.label.now)
read c = accepted_as _ _ _ c.read_term.ensures Label _ c.map_err.ensures.cases _ c.in_ok-map_err.was

few : (c : In_ok-map_err) → job_size c.args.n ≡ true
few c = search rules

pub returns-then-not-real_date-clause-made : goal.returns-then-not-real_date-clause-made
returns-then-not-real_date-clause-made c = made_day _ _ _ _ _ _ (sym c.real_date.ensures ∙ c.if-not-real_date.true)

pub returns-then-not-contains-clause-made : goal.returns-then-not-contains-clause-made
returns-then-not-contains-clause-made c =
    let many : job_size c.args.n ≡ false = search rules in
    made_names _ _ _ _ _ _ (sym c.real_date.ensures ∙ c.if-not-real_date.false) many

pub returns-in_err-map_err-clause-made : goal.returns-in_err-map_err-clause-made
returns-in_err-map_err-clause-made c =
    let few : job_size c.args.n ≡ true = search rules in
    let p = err_from_is_err_and c.from_residual.result c.from_residual.ensures.1 in
    let r = refused_as _ _ _ c.read_term.ensures Label _ c.map_err.ensures.cases _ c.in_err-map_err.was in
    rw (p.1, p.2, r.1) (made_label _ _ _ _ _ _ (sym c.real_date.ensures ∙ c.if-not-real_date.false) few _ r.2)

pub copy_label-requires : goal.copy_label-requires
copy_label-requires c = let t = read (goal.at.copy_label-requires c).In_ok-map_err in label_short _ _ t.value t.is

pub returns-clause-made : goal.returns-clause-made
returns-clause-made c =
    let a = c.args in
    let t = read (goal.at.returns-clause-made c).In_ok-map_err in
    let short = label_short _ _ t.value t.is in
    let size = few (goal.at.returns-clause-made c).In_ok-map_err in
    rw (c.copy_label.ensures refl)
    (made_new a.n a.label.now a.day a.ledger.now (replicate 64 0) _ _ t.value (sym c.real_date.ensures ∙ c.if-not-real_date.false) size t.is refl short
    (c.begin.ensures c.told-ledger (leb-true a.n 12 (and_right (leb 1 a.n) (leb a.n 12) size))) (c.clear.ensures c.told-numbers _))

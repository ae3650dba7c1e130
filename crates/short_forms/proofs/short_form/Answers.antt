-- The refusals in their order, and then the short form.
use Rattle.std.proofs.Common.{◌≡◌, ◌&&◌, sym, ◌∙◌, rules, arith}
use lib.Dec.{leb}
use Rattle.std.proofs.lemmas.Result.{err_from_is_err_and}
use Rattle.refusals.specs.declared.Refusal.TheVariants.{Term}
use Rattle.terms.proofs.Accepted.{accepted_as, refused_as}
use Rattle.short_forms.proofs.Answering.{answer_7, answer_8, answer_term, answer_written}
use Rattle.short_forms.proofs.short_form.Goals as goal
use Rattle.short_forms.proofs.short_form.Goals.{After-contains}

-- what the test of n says
told : (c : After-contains) → c.contains.result ≡ (leb 1 c.args.n && leb c.args.n 12)
told c = search rules

pub returns-then-not-contains : goal.returns-then-not-contains
returns-then-not-contains c = answer_7 _ _ _ (sym (told (goal.at.returns-then-not-contains c).After-contains) ∙ c.if-not-contains.true)

pub returns-then-buffer-lt3700 : goal.returns-then-buffer-lt3700
returns-then-buffer-lt3700 c = answer_8 _ _ _ (sym (told (goal.at.returns-then-buffer-lt3700 c).After-contains) ∙ c.if-not-contains.false) (omega arith)

pub returns-in_err-map_err : goal.returns-in_err-map_err
returns-in_err-map_err c =
    let few = sym (told (goal.at.returns-in_err-map_err c).After-contains) ∙ c.if-not-contains.false in
    let p = err_from_is_err_and c.from_residual.result c.from_residual.ensures.1 in
    rw (p.1, p.2) (answer_term _ _ _ few (omega arith) _ (refused_as _ _ _ c.read_term.ensures Term _ c.map_err.ensures.cases _ c.in_err-map_err.was))

pub returns : goal.returns
returns c =
    let few = sym (told (goal.at.returns c).After-contains) ∙ c.if-not-contains.false in
    answer_written _ _ _ few (omega arith) _ _ (accepted_as _ _ _ c.read_term.ensures Term _ c.map_err.ensures.cases _ c.in_ok-map_err.was) c.write.ensures

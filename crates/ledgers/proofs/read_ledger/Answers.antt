-- The refusals in their order, by what each call ensures.
use native.Mathlib.Omega.{arith}
use mathlib.Core.Path.{sym, ◌∙◌}
use Rattle.std.proofs.lemmas.Result.{err_from_is_err_and}
use Rattle.model.specs.Ledgers.{read_ledger}
use Rattle.ledgers.proofs.Checks.{CutIn, cut}
use Rattle.ledgers.proofs.Readers.{ledger_answer}
use Rattle.ledgers.proofs.read_ledger.Goals as goal
use Rattle.ledgers.proofs.read_ledger.Goals.{After-all_checks}

-- the blocks are block 0 and those of the grants
known : (c : After-all_checks) → CutIn c.args.ledger.now c.blocks-blocks.result.now
known c = cut _ _ (sym c.length_fits.ensures ∙ c.if-not-length_fits.false) c.blocks-blocks.ensures

pub returns-then-not-length_fits : goal.returns-then-not-length_fits
unfolding read_ledger
returns-then-not-length_fits c = simp (sym c.length_fits.ensures ∙ c.if-not-length_fits.true)

pub returns-then-not-all_checks : goal.returns-then-not-all_checks
unfolding read_ledger
returns-then-not-all_checks c =
    let k = known (goal.at.returns-then-not-all_checks c).After-all_checks in
    simp (sym c.length_fits.ensures ∙ c.if-not-length_fits.false, sym k.checks ∙ sym c.all_checks.ensures ∙ c.if-not-all_checks.true)

pub bounds-blocks-0 : goal.bounds-blocks-0
bounds-blocks-0 c = let k = known (goal.at.bounds-blocks-0 c).After-all_checks in k.some

pub slice_bounds-of_grants-count : goal.slice_bounds-of_grants-count
slice_bounds-of_grants-count c = let k = known (goal.at.slice_bounds-of_grants-count c).After-all_checks in omega (arith, k.some)

pub slice_bounds-of_grants-start : goal.slice_bounds-of_grants-start
slice_bounds-of_grants-start c = let k = known (goal.at.slice_bounds-of_grants-start c).After-all_checks in omega (arith, k.some)

pub returns-then-not-header_form : goal.returns-then-not-header_form
unfolding read_ledger
returns-then-not-header_form c =
    let k = known (goal.at.returns-then-not-header_form c).After-all_checks in
    let h = rw (k.others, k.first) at c.header_form.ensures in
    simp (
      sym c.length_fits.ensures ∙ c.if-not-length_fits.false,
      sym k.checks ∙ sym c.all_checks.ensures ∙ c.if-not-all_checks.false,
      sym h ∙ c.if-not-header_form.true,
    )

pub returns-in_err-read_grants : goal.returns-in_err-read_grants
returns-in_err-read_grants c =
    let p = err_from_is_err_and c.from_residual.result c.from_residual.ensures.1 in
    let k = known (goal.at.returns-in_err-read_grants c).After-all_checks in
    let form = rw (k.others, k.first) at c.header_form.ensures in
    let said = rw (k.others, k.names) at c.in_err-read_grants.ensures in
    let answer = ledger_answer c.args.ledger.now (sym c.length_fits.ensures ∙ c.if-not-length_fits.false) (sym k.checks ∙ sym c.all_checks.ensures ∙ c.if-not-all_checks.false)
    (sym form ∙ c.if-not-header_form.false)
    in
    rw (p.1, p.2, answer, ← said)

pub returns : goal.returns
returns c =
    let k = known (goal.at.returns c).After-all_checks in
    let form = rw (k.others, k.first) at c.header_form.ensures in
    let said = rw (k.others, k.names) at c.in_ok-read_grants.ensures in
    let answer = ledger_answer c.args.ledger.now (sym c.length_fits.ensures ∙ c.if-not-length_fits.false) (sym k.checks ∙ sym c.all_checks.ensures ∙ c.if-not-all_checks.false)
    (sym form ∙ c.if-not-header_form.false)
    in
    rw (k.others, k.names, answer, ← said)

-- What is quoted is the block of the grant that a step of an accepted derivation names.
use Rattle.std.specs.Prelude.{ℕ, List, [], Some, None, Result, Ok, Err, eqb, true, false}
use Rattle.std.specs.Result.{result_ok}
use mathlib.Core.Path.{◌≡◌, refl, sym, ◌∙◌}
use borrow.Author.Tests.{lt-ltb, le-ltb}
use Rattle.model.specs.Bytes.{byte}
use Rattle.model.specs.Answers.{Yes}
use Rattle.model.specs.Derivations.{if_accepted}
use Rattle.derivations.specs.Answers.{checked_of}
use Rattle.derivations.specs.declared.DerivationRefusal.{DerivationRefusal}
use Rattle.derivations.specs.declared.DerivationRefusal.TheVariants.{Call, Step}
use Rattle.derivations.proofs.Rules.{uses_grant_lem, not_granted}
use Rattle.derivations.proofs.Checking.{quote_told, quote_refused}
use Rattle.derivations.proofs.quoted.Goals as goal

-- what is not accepted gives the empty part
none : (x : Result (Unit {0}) DerivationRefusal) (part : List ℕ) → None ≡ result_ok x → if_accepted (checked_of x) part ≡ []
none (Ok u) part e = cc
none (Err (Call why)) part e = refl
none (Err (Step k why)) part e = refl

accepts : (x : Result (Unit {0}) DerivationRefusal) (u : Unit {0}) → Some u ≡ result_ok x → checked_of x ≡ Yes
accepts (Ok v) u e = refl
accepts (Err why) u e = cc

pub returns-in_err-ok : goal.returns-in_err-ok
returns-in_err-ok c =
    rw c.from_residual.ensures
    (sym (quote_refused _ _ _ _ _ (checked_of c.check_derivation.result) (sym c.check_derivation.ensures) (λ part. none c.check_derivation.result part c.in_err-ok.ensures.value)))

pub returns-then-derivation-step : goal.returns-then-derivation-step
returns-then-derivation-step c =
    sym (quote_told _ _ _ _ _ _ _ _ (sym c.check_derivation.ensures ∙ accepts _ _ c.in_ok-ok.ensures.value) refl (le-ltb _ _ c.if-derivation-step.true) refl)

pub returns-in_err-of : goal.returns-in_err-of
returns-in_err-of c =
    let rule : eqb (byte 0 c.step_at-named.result.now) 2 ≡ false = sym (uses_grant_lem _) ∙ rw (← c.in_err-of.ensures) in
    rw c.from_residual-in_err-of.ensures
    (sym (quote_told _ _ _ _ _ _ _ _ (sym c.check_derivation.ensures ∙ accepts _ _ c.in_ok-ok.ensures.value) c.step_at-named.ensures (lt-ltb _ _ c.if-derivation-step.false) rule))

pub returns-in_default : goal.returns-in_default
returns-in_default c =
    let rule : eqb (byte 0 c.step_at-named.result.now) 2 ≡ false = sym (uses_grant_lem _) ∙ rw (← c.in_ok-of.ensures) (not_granted _ c.in_default.not-Granted) in
    sym (quote_told _ _ _ _ _ _ _ _ (sym c.check_derivation.ensures ∙ accepts _ _ c.in_ok-ok.ensures.value) c.step_at-named.ensures (lt-ltb _ _ c.if-derivation-step.false) rule)

pub returns-in-Granted : goal.returns-in-Granted
returns-in-Granted c =
    let rule : eqb (byte 0 c.step_at-named.result.now) 2 ≡ true = sym (uses_grant_lem _) ∙ rw (← c.in_ok-of.ensures, c.in-Granted.is) in
    c.grant_block.ensures
    ∙ sym (quote_told _ _ _ _ _ _ _ _ (sym c.check_derivation.ensures ∙ accepts _ _ c.in_ok-ok.ensures.value) c.step_at-named.ensures (lt-ltb _ _ c.if-derivation-step.false) rule)

-- The form of a step, fields and filler. Assumes nothing.
use Prim.Native.Nat.{zero, suc, ◌<◌}
use native.Mathlib.Omega.{arith}
use lib.Dec.{leb}
use Rattle.std.specs.Prelude.{ℕ, Bool, List, true, false, cond, ◌&&◌, eqb}
use borrow.Author.Tests.{eqb-true, ne_eqb, lt-leb}
use Rattle.model.specs.Sides.{confidentiality, integrity}
use mathlib.Core.Logic.{◌⊎◌, inl, inr}
use mathlib.Core.Path.{◌≡◌, refl}
use mathlib.Core.Bool.{and_assoc, and-false}
use Rattle.model.specs.Derivations.{Rule, static, granted, transitive, conjunction, disjunction, projection, no_rule, rule_of, is_rule, uses_of, step_form}
use Rattle.fields.specs.Terms.{past_term}
use Rattle.derivations.specs.Steps.{rule_is, fields_form, filler_form}
use Rattle.derivations.specs.declared.Rule.{Rule as CodeRule}
use Rattle.derivations.specs.declared.Rule.TheVariants.{Static, Granted, Transitive, Conjunction, Disjunction, Projection}

pub step_forms : (r : Rule) (step : List ℕ) → step_form r step ≡ (is_rule r && (fields_form r step && filler_form step))
unfolding step_form fields_form filler_form past_term
step_forms r step = simp and_assoc

-- a byte that is no rule
pub no_rule_lem : (r : ℕ) → (r < 1) ⊎ (7 < r) → rule_of r ≡ no_rule
unfolding rule_of
no_rule_lem r (inl h) =
    let e : r ≡ 0 = omega arith in
    rw e
no_rule_lem r (inr h) = simp (
  ne_eqb r 1 (λ e. omega arith),
  ne_eqb r 2 (λ e. omega arith),
  ne_eqb r 3 (λ e. omega arith),
  ne_eqb r 4 (λ e. omega arith),
  ne_eqb r 5 (λ e. omega arith),
  ne_eqb r 6 (λ e. omega arith),
  ne_eqb r 7 (λ e. omega arith),
)

-- a byte is a rule if it is 1 to 7
pub is_rule_lem : (r : ℕ) → is_rule (rule_of r) ≡ (leb 1 r && leb r 7)
unfolding rule_of
is_rule_lem zero = refl
is_rule_lem (suc zero) = refl
is_rule_lem (suc (suc zero)) = refl
is_rule_lem (suc (suc (suc zero))) = refl
is_rule_lem (suc (suc (suc (suc zero)))) = refl
is_rule_lem (suc (suc (suc (suc (suc zero))))) = refl
is_rule_lem (suc (suc (suc (suc (suc (suc zero)))))) = refl
is_rule_lem (suc (suc (suc (suc (suc (suc (suc zero))))))) = refl
is_rule_lem (suc (suc (suc (suc (suc (suc (suc (suc r)))))))) = past (suc (suc (suc (suc (suc (suc (suc (suc r)))))))) (omega arith)
  where
    past : (r : ℕ) → 7 < r → is_rule (rule_of r) ≡ (leb 1 r && leb r 7)
    past r h = rw (no_rule_lem r (inr h), lt-leb r 7 h, and-false (leb 1 r))

-- each case is a rule
a_rule : (rule : CodeRule) → is_rule (rule_is rule) ≡ true
a_rule Static = refl
a_rule Granted = refl
a_rule Transitive = refl
a_rule Conjunction = refl
a_rule Disjunction = refl
a_rule (Projection side) = refl

pub form_is : (rule : CodeRule) (step : List ℕ) → step_form (rule_is rule) step ≡ (fields_form (rule_is rule) step && filler_form step)
form_is rule step = rw (step_forms, a_rule rule)

-- the rule that uses a grant is rule 2
pub uses_grant_lem : (b : ℕ) → (uses_of (rule_of b)).grant ≡ eqb b 2
unfolding rule_of
uses_grant_lem b = go (eqb b 2) refl
  where
    others : (a c d e f g : Bool)
        → (uses_of (cond a static (cond false granted (cond c transitive (cond d conjunction (cond e disjunction (cond f (projection confidentiality) (cond g (projection integrity) no_rule)))))))).grant ≡ false
    others true c d e f g = refl
    others false true d e f g = refl
    others false false true e f g = refl
    others false false false true f g = refl
    others false false false false true g = refl
    others false false false false false true = refl
    others false false false false false false = refl

    go : (is : Bool) → eqb b 2 ≡ is → (uses_of (rule_of b)).grant ≡ is
    go true h = rw (eqb-true b 2 h)
    go false h = rw h (others (eqb b 1) (eqb b 3) (eqb b 4) (eqb b 5) (eqb b 6) (eqb b 7))

-- no other case does
pub not_granted : (rule : CodeRule) → (rule ≡ Granted → ⊥) → (uses_of (rule_is rule)).grant ≡ false
not_granted Static e = refl
not_granted Granted e = absurd (e refl)
not_granted Transitive e = refl
not_granted Conjunction e = refl
not_granted Disjunction e = refl
not_granted (Projection side) e = refl

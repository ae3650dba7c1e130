-- A step's tests, one group after another, as the code makes them (document 01, "Derivations" and "Refusals by operation").
-- Assumes nothing: these are definitions.
use Rattle.std.specs.Prelude.{◌≡◌, ℕ, Bool, true, not, ◌&&◌, ◌||◌, List, Option, Some, None, eqb, ltb, leb, length}
use Rattle.model.specs.Bytes.{byte, field, zeros}
use Rattle.model.specs.Coalitions.{member}
use Rattle.model.specs.Readings.{Reading, accepted, require, is_accepted}
use Rattle.model.specs.Terms.{Term, read_term}
use Rattle.model.specs.Grants.{Grant}
use Rattle.model.specs.Ledgers.{Ledger, read_ledger}
use Rattle.model.specs.Derivations.{Rule, static, granted, transitive, conjunction, disjunction, projection, no_rule, rule_of, uses_of, step_form, read_left, read_right, before, check_step}
use Rattle.model.specs.Meanings.{grant_bits}
use Rattle.fields.specs.Terms.{past_term}
use Rattle.words.specs.FourWords.{side_of}
use Rattle.ledgers.specs.declared.Sizes.{Sizes}
use Rattle.ledgers.specs.Readings.{LedgerOf}
use Rattle.derivations.specs.declared.Rule.{Rule as CodeRule}
use Rattle.derivations.specs.declared.Rule.TheVariants.{Static, Granted, Transitive, Conjunction, Disjunction, Projection}

-- the rule that a case stands for
abbrev pub rule_is : CodeRule → Rule
rule_is Static = static
rule_is Granted = granted
rule_is Transitive = transitive
rule_is Conjunction = conjunction
rule_is Disjunction = disjunction
rule_is (Projection side) = projection (side_of side)

-- a number that is none
abbrev pub rule_or_none : Option CodeRule → Rule
rule_or_none (Some rule) = rule_is rule
rule_or_none None = no_rule

-- 00 in the fields that the rule doesn't use
unfoldable pub fields_form : Rule → List ℕ → Bool
fields_form r step = ((uses_of r).first || eqb (byte 1 step) 0) && (((uses_of r).second || eqb (byte 2 step) 0) && ((uses_of r).grant || eqb (byte 3 step) 0))

unfoldable pub filler_form : List ℕ → Bool
filler_form step = zeros (field 6 2 step) && (past_term 4 8 step && past_term 5 72 step)

-- the term whose length is byte k and that begins at `at`
unfoldable pub read_field : ℕ → ℕ → ℕ → List ℕ → Reading Term
read_field k at n step = require (leb (byte k step) 64) 1 (read_term n (field at (byte k step) step))

-- the step's rule, or refusal 61 to 63
unfoldable pub read_step : ℕ → Rule → List ℕ → Reading Rule
read_step n r step =
    require (step_form r step) 61
    (require (is_accepted (read_left n step)) 62
    (require (is_accepted (read_right n step)) 63
    (accepted r)))

-- refusal 64
abbrev pub premises_before : Rule → List ℕ → ℕ → Bool
premises_before r step k = before (uses_of r).first (byte 1 step) k && before (uses_of r).second (byte 2 step) k

-- of so many grants, bit g of a number telling whether grant g counts: refusals 65 and 66
abbrev pub grant_check : Rule → List ℕ → ℕ → ℕ → Reading (Unit {0})
grant_check r step grants bits =
    require (not (uses_of r).grant || ltb (byte 3 step) grants) 65
    (require (not (uses_of r).grant || member (byte 3 step) bits) 66
    (accepted tt))

-- The bytes are a ledger of these sizes, and the bits say which of its grants count.
pub record BookOf (ledger : List ℕ) (sizes : Sizes) (bits : ℕ) (l : Ledger) (f : Grant → Bool) : Type 0 where
  pub of : LedgerOf ledger sizes.names sizes.grants l
  pub are : bits ≡ grant_bits f l.grants

-- A step whose terms are read, and whose grant is there if its rule uses one: then the rule can be judged.
pub record Ready (ledger : List ℕ) (n : ℕ) (r : Rule) (step : List ℕ) (l : Ledger) : Type 0 where
  pub is : read_ledger ledger ≡ accepted l
  pub names : n ≡ l.names
  pub left_read : is_accepted (read_left n step) ≡ true
  pub right_read : is_accepted (read_right n step) ≡ true
  pub grant_there : (not (uses_of r).grant || ltb (byte 3 step) (length l.grants)) ≡ true

-- a step of a derivation, k being its number
abbrev pub check_at : Ledger → (Grant → Bool) → List ℕ → ℕ → List ℕ → Reading (Unit {0})
check_at l f d k step = check_step l f d k step (rule_of (byte 0 step))

-- Derivation trees by the seven rules of document 01, "Derivations", over terms and of any size, and what is claimed of them.
-- Assumes nothing: these are definitions.
use Rattle.std.specs.Prelude.{ℕ, ◌≡◌, ◌↔◌, true}
use mathlib.Core.List.{List, Memᴰ}
use Rattle.model.specs.Sides.{Side}
use Rattle.model.specs.Terms.{Term, conj, disj, project, NamesBelow, held}
use Rattle.model.specs.Grants.{Grant, Under, acts_statically, counting}
use Rattle.model.specs.Ledgers.{Ledger}
use Rattle.model.specs.Answers.{Yes}
use Rattle.model.specs.Questions.{acts_for}
use Rattle.demands.specs.Answers.{Asked}
use Rattle.algebra.specs.Algebra.{GrantsBelow, Carries}

-- `Derives n G p q`: a tree whose last step has p and q, G being the grants that count.
-- Rule 1 takes terms of n names, as a step's terms are, and no other rule brings in a name that neither a premise nor a grant has.
pub data Derives (n : ℕ) (G : List Grant) : Term → Term → Type 0 where
  -- p statically acts for q
  rule1 : {p q : Term} → NamesBelow n p → NamesBelow n q → acts_statically n p q ≡ true → Derives n G p q
  -- a grant that counts has this p and q
  rule2 : {g : Grant} → Memᴰ g G → Derives n G g.p g.q
  -- the first premise is p for m, the second m for q
  rule3 : {p m q : Term} → Derives n G p m → Derives n G m q → Derives n G p q
  -- q is both of the premises' right terms
  rule4 : {p a b : Term} → Derives n G p a → Derives n G p b → Derives n G p (conj a b)
  -- p is either of the premises' left terms
  rule5 : {a b q : Term} → Derives n G a q → Derives n G b q → Derives n G (disj a b) q
  -- rules 6 and 7: one side of the premise's terms
  rule6_7 : (s : Side) {p q : Term} → Derives n G p q → Derives n G (project s p) (project s q)

-- What is derived is a yes: on each side every sound coalition that holds p holds q.
abbrev pub RulesAreSound : Type 0
RulesAreSound = (n : ℕ) (G : List Grant) (p q : Term) → Derives n G p q → (s : Side) → Carries n G s (held p) (held q)

-- Every yes is derived.
abbrev pub RulesAreComplete : Type 0
RulesAreComplete =
    (n : ℕ) (G : List Grant) (p q : Term)
    → GrantsBelow n G → NamesBelow n p → NamesBelow n q
    → ((s : Side) → Carries n G s (held p) (held q)) → Derives n G p q

-- So a yes, on the bytes of a question, is what the rules derive from the grants that count under the label.
abbrev pub YesIsDerived : Type 0
YesIsDerived =
    (ledger p q label : List ℕ) (day : ℕ) (l : Ledger) (u : Under) (tp tq : Term) → Asked ledger p q label day l u tp tq
    → (acts_for ledger p q label day ≡ Yes) ↔ Derives l.names (counting u l.grants) tp tq

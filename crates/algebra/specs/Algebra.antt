-- FLAM's principal algebra (source document 000: Figure 4.1, Definitions 1, 2, 3 and 7) as a relation, and what is claimed of it.
-- The relation knows no coalitions, and document 01 asks nothing else: the claims tie the two. A term stands in it
-- for the principal that it means. Assumes nothing: these are definitions.
use Rattle.std.specs.Prelude.{ℕ, ◌≡◌, ◌↔◌, true}
use mathlib.Core.List.{List, [], Memᴰ}
use Rattle.model.specs.Sides.{Side, confidentiality, integrity}
use Rattle.model.specs.Coalitions.{Marks}
use Rattle.model.specs.Terms.{Term, NamesBelow, held}
use Rattle.model.specs.Grants.{Grant, Under, visible, acts_statically, counting, sound_of}
use Rattle.model.specs.Ledgers.{Ledger}
use Rattle.model.specs.Answers.{Yes}
use Rattle.model.specs.Questions.{acts_for, flows_to}
use Rattle.model.specs.Meanings.{Holds}
use Rattle.model.specs.Voice.{voice, spoken_by_voice}
use Rattle.demands.specs.Answers.{Asked}
use Rattle.algebra.specs.Principals.{Principal, name, top, bottom, conj, disj, project, held_by, Named}
use Rattle.algebra.specs.Meaning.{meaning}

-- a side's other side
abbrev pub other : Side → Side
other confidentiality = integrity
other integrity = confidentiality

-- `ActsFor G p q`: from the grants G, p acts for q.
pub data ActsFor (G : List Grant) : Principal → Principal → Type 0 where
  -- Figure 4.1, BOT
  bot_r : {p : Principal} → ActsFor G p bottom
  -- TOP
  top_l : {p : Principal} → ActsFor G top p
  -- REFL
  self : {p : Principal} → ActsFor G p p
  -- PROJ
  proj : (s : Side) {p q : Principal} → ActsFor G p q → ActsFor G (project s p) (project s q)
  -- PROJR
  proj_r : (s : Side) {p : Principal} → ActsFor G p (project s p)
  -- CONJL, k = 1 and k = 2
  conj_l₁ : {p₁ p₂ p : Principal} → ActsFor G p₁ p → ActsFor G (conj p₁ p₂) p
  conj_l₂ : {p₁ p₂ p : Principal} → ActsFor G p₂ p → ActsFor G (conj p₁ p₂) p
  -- CONJR
  conj_r : {p p₁ p₂ : Principal} → ActsFor G p p₁ → ActsFor G p p₂ → ActsFor G p (conj p₁ p₂)
  -- DISJL
  disj_l : {p₁ p₂ p : Principal} → ActsFor G p₁ p → ActsFor G p₂ p → ActsFor G (disj p₁ p₂) p
  -- DISJR, k = 1 and k = 2
  disj_r₁ : {p p₁ p₂ : Principal} → ActsFor G p p₁ → ActsFor G p (disj p₁ p₂)
  disj_r₂ : {p p₁ p₂ : Principal} → ActsFor G p p₂ → ActsFor G p (disj p₁ p₂)
  -- TRANS
  then : {p q r : Principal} → ActsFor G p q → ActsFor G q r → ActsFor G p r
  -- The lattice is distributive. Appendix A.2 has the dual law, its rewriting rule norm∨(J₁ ∧ J₂, J) = norm∨(J₁, J) ∧ norm∨(J₂, J), and in a
  -- lattice each of the two gives the other; section 5.2.1 rewrites by this one. The other half follows.
  distr : {p q r : Principal} → ActsFor G (conj p (disj q r)) (disj (conj p q) (conj p r))
  -- Definition 1, property 3: the half that Figure 4.1 does not give
  conj_project : (s : Side) (p q : Principal) → ActsFor G (conj (project s p) (project s q)) (project s (conj p q))
  -- Definition 1, property 4: likewise
  disj_project : (s : Side) (p q : Principal) → ActsFor G (project s (disj p q)) (disj (project s p) (project s q))
  -- Definition 2, property 1: likewise
  basis : {p : Principal} → ActsFor G (conj (project confidentiality p) (project integrity p)) p
  -- Definition 2, property 2: likewise; its property 3 follows
  crossed : (s : Side) (p : Principal) → ActsFor G bottom (project (other s) (project s p))
  -- an assumption: a grant, between what its terms mean
  grant : {g : Grant} → Memᴰ g G → ActsFor G (meaning g.p) (meaning g.q)

-- Definition 3: p flows to q
abbrev pub FlowsTo : List Grant → Principal → Principal → Type 0
FlowsTo G p q = ActsFor G (conj (project confidentiality q) (project integrity p)) (conj (project confidentiality p) (project integrity q))

-- p = q in the algebra: each acts for the other
abbrev pub Same : List Grant → Principal → Principal → Type 0
Same G p q = ActsFor G p q × ActsFor G q p

-- what a principal is on one side, without projections
unfoldable pub on_side : Side → Principal → Principal
on_side s (name i) = name i
on_side s top = top
on_side s bottom = bottom
on_side s (conj p q) = conj (on_side s p) (on_side s q)
on_side s (disj p q) = disj (on_side s p) (on_side s q)
on_side confidentiality (project confidentiality p) = on_side confidentiality p
on_side confidentiality (project integrity p) = bottom
on_side integrity (project confidentiality p) = bottom
on_side integrity (project integrity p) = on_side integrity p

-- A principal's normal form: a part without projections on each side (section 3.2.3).
unfoldable pub normal : Principal → Principal
normal p = conj (project confidentiality (on_side confidentiality p)) (project integrity (on_side integrity p))

-- Definition 7, of the normal form: what q is on either side, as integrity
unfoldable pub voice_of : Principal → Principal
voice_of q = conj (project integrity (on_side confidentiality q)) (project integrity (on_side integrity q))

-- no projection occurs in the principal
unfoldable pub Unprojected : Principal → Type 0
Unprojected (name i) = Unit {0}
Unprojected top = Unit {0}
Unprojected bottom = Unit {0}
Unprojected (conj p q) = Unprojected p × Unprojected q
Unprojected (disj p q) = Unprojected p × Unprojected q
Unprojected (project s p) = ⊥

-- the names of each grant's p and q are below n
abbrev pub GrantsBelow : ℕ → List Grant → Type 0
GrantsBelow n G = (g : Grant) → Memᴰ g G → NamesBelow n g.p × NamesBelow n g.q

-- on a side, every sound coalition of n names that is one of p is one of q
abbrev pub Carries : ℕ → List Grant → Side → Marks → Marks → Type 0
Carries n G s p q = Holds n (sound_of G) p q s

-- The claims. Each is the promise of a function of module `algebra`.

-- A term is held exactly where the principal that it means is held.
abbrev pub HeldWhereMeant : Type 0
HeldWhereMeant = (t : Term) (s : Side) (c : ℕ) → held_by (meaning t) s c ≡ held t s c

-- The algebra derives "p acts for q" from the grants exactly if, on each side, every sound coalition that holds p holds q.
abbrev pub ActsForByCoalitions : Type 0
ActsForByCoalitions =
    (n : ℕ) (G : List Grant) (p q : Principal)
    → GrantsBelow n G → Named n p → Named n q
    → ActsFor G p q ↔ ((s : Side) → Carries n G s (held_by p) (held_by q))

-- It derives "p flows to q" exactly if every sound coalition on the see side that holds q holds p, and on the change side one that holds p holds q.
abbrev pub FlowsToByCoalitions : Type 0
FlowsToByCoalitions =
    (n : ℕ) (G : List Grant) (p q : Principal)
    → GrantsBelow n G → Named n p → Named n q
    → FlowsTo G p q ↔ (Carries n G confidentiality (held_by q) (held_by p) × Carries n G integrity (held_by p) (held_by q))

-- "Statically, p acts for q" is the algebra without grants.
abbrev pub StaticIsActsFor : Type 0
StaticIsActsFor = (n : ℕ) (p q : Term) → NamesBelow n p → NamesBelow n q → (acts_statically n p q ≡ true) ↔ ActsFor [] (meaning p) (meaning q)

-- Under L a grant labelled d is visible exactly if d flows to L.
abbrev pub VisibleIsFlowsTo : Type 0
VisibleIsFlowsTo = (n : ℕ) (L d : Term) → NamesBelow n L → NamesBelow n d → (visible n (held L) (held d) ≡ true) ↔ FlowsTo [] (meaning d) (meaning L)

-- A grant labelled d, of what q may do, was spoken by the voice exactly if d's integrity acts for the voice of q.
abbrev pub SpokenByVoiceIsActsForVoice : Type 0
SpokenByVoiceIsActsForVoice =
    (n : ℕ) (q d : Term) → NamesBelow n q → NamesBelow n d
    → (spoken_by_voice n (held q) (held d) ≡ true) ↔ ActsFor [] (project integrity (meaning d)) (voice_of (meaning q))

-- Every principal equals its normal form, whose two parts have no projections.
pub record HasNormalForm (p : Principal) : Type 0 where
  pub same : (G : List Grant) → Same G p (normal p)
  pub unprojected : (s : Side) → Unprojected (on_side s p)

abbrev pub NormalForms : Type 0
NormalForms = (p : Principal) → HasNormalForm p

-- The voice is Definition 7's: of p→ ∧ q← it is p← ∧ q←. It does not turn on how a principal is written: equal principals have equal voices.
pub record VoiceOfNormalForms : Type 0 where
  pub definition : (G : List Grant) (p q : Principal) → Unprojected p → Unprojected q
      → Same G (voice_of (conj (project confidentiality p) (project integrity q))) (conj (project integrity p) (project integrity q))
  pub monotone : (p q : Principal) → ActsFor [] p q → ActsFor [] (voice_of p) (voice_of q)

-- It is held where document 01's voice is, on each side, at every coalition.
abbrev pub VoiceIsHeld : Type 0
VoiceIsHeld = (s : Side) (q : Principal) (c : ℕ) → held_by (voice_of q) s c ≡ voice (held_by q) s c

-- Definitions 1 and 2 in full, under any grants: the five properties of an authority projection, and the three of the basis.
pub record ProjectionLaws (G : List Grant) : Type 0 where
  pub weaker : (s : Side) (p : Principal) → ActsFor G p (project s p)
  pub monotone : (s : Side) (p q : Principal) → ActsFor G p q → ActsFor G (project s p) (project s q)
  pub conjunction : (s : Side) (p q : Principal) → Same G (conj (project s p) (project s q)) (project s (conj p q))
  pub disjunction : (s : Side) (p q : Principal) → Same G (disj (project s p) (project s q)) (project s (disj p q))
  pub idempotent : (s : Side) (p : Principal) → Same G (project s (project s p)) (project s p)
  pub whole : (p : Principal) → Same G p (conj (project confidentiality p) (project integrity p))
  pub composed : (s : Side) (p : Principal) → Same G (project (other s) (project s p)) bottom
  pub apart : (p q : Principal) → Same G (disj (project confidentiality p) (project integrity q)) bottom

abbrev pub DefinitionsOneAndTwo : Type 0
DefinitionsOneAndTwo = (G : List Grant) → ProjectionLaws G

-- On the bytes of a question none of whose inputs is refused, acts-for answers yes exactly if the algebra derives it from the grants that count.
abbrev pub YesIsActsFor : Type 0
YesIsActsFor =
    (ledger p q label : List ℕ) (day : ℕ) (l : Ledger) (u : Under) (tp tq : Term) → Asked ledger p q label day l u tp tq
    → (acts_for ledger p q label day ≡ Yes) ↔ ActsFor (counting u l.grants) (meaning tp) (meaning tq)

-- So does flows-to, by Definition 3.
abbrev pub YesIsFlowsTo : Type 0
YesIsFlowsTo =
    (ledger p q label : List ℕ) (day : ℕ) (l : Ledger) (u : Under) (tp tq : Term) → Asked ledger p q label day l u tp tq
    → (flows_to ledger p q label day ≡ Yes) ↔ FlowsTo (counting u l.grants) (meaning tp) (meaning tq)

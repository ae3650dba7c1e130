-- The seven rules derive exactly the yes, with terms of n names alone.
use mathlib.Core.Path.{◌≡◌, refl, ap, ap₂}
use mathlib.Core.Logic.Iff
use mathlib.Core.Bool.{true, cond, ◌&&◌}
use mathlib.Core.List.{List, []}
use Prim.Native.Nat.{ℕ, ◌^◌, ◌<◌}
use lib.Dec.{ltb}
use borrow.Author.Tests.{ltb-true, lt-ltb}
use Rattle.model.specs.Sides.{Side}
use Rattle.model.specs.Terms.{Term, name, top, bottom, conj, disj, project, NamesBelow, held}
use Rattle.model.specs.Grants.{sound_of, Grant, counting}
use Rattle.model.proofs.Truth.{and_intro, and_left, and_right, or_elim, cond_case}
use Rattle.model.proofs.Sound.{static_says, sound_elim}
use Rattle.algebra.specs.Principals.{Principal, Named}
use Rattle.algebra.specs.Meaning.{meaning}
use Rattle.algebra.specs.Algebra.{ActsFor, bot_r, top_l, self, proj, proj_r, conj_l₁, conj_l₂, conj_r, disj_l, disj_r₁, disj_r₂, then, distr, conj_project, disj_project, basis, crossed, grant, GrantsBelow}
use Rattle.algebra.specs.Rules.{Derives, rule1, rule2, rule3, rule4, rule5, rule6_7, RulesAreSound, RulesAreComplete, YesIsDerived}
use Rattle.model.proofs.Held.{project_held}
use Rattle.algebra.proofs.Meanings.{meaning_named}
use Rattle.algebra.proofs.Exact.{acts_for_terms, static_acts, names_fit, yes_carries}

module _ (n : ℕ) (G : List Grant) (t : Side) (c : ℕ) (l : c < 2 ^ n) (good : sound_of G t c ≡ true) where
  kept : {p q : Term} → Derives n G p q → held p t c ≡ true → held q t c ≡ true
  unfolding held
  kept (rule1 {p} {q} pn qn e) h = (static_says n p q).0 e t c l h
  kept (rule2 {g} m) h = sound_elim G t c good g m h
  kept (rule3 d e) h = kept e (kept d h)
  kept (rule4 d e) h = and_intro (kept d h) (kept e h)
  kept (rule5 {a} {b} d e) h = or_elim (held a t c) (held b t c) (λ k. kept d k) (λ k. kept e k) h
  kept (rule6_7 s {p} {q} d) h = project_held s t c (λ f. f p ≡ true → f q ≡ true) (λ k. kept d k) (λ k. refl) h

pub rules_sound : RulesAreSound
rules_sound n G p q d s c l good = kept n G s c l good d

-- The algebra's derivations may pass through any names, and a term may be written with quorums where its meaning has none. So a principal is written as
-- a term without quorums, in which the weakest stands for the names that are not below n.
abbrev pub written : ℕ → Principal → Term
written n (Principal.name i) = cond (ltb i 12 && ltb i n) (name i) bottom
written n Principal.top = top
written n Principal.bottom = bottom
written n (Principal.conj p q) = conj (written n p) (written n q)
written n (Principal.disj p q) = disj (written n p) (written n q)
written n (Principal.project s p) = project s (written n p)

pub written-names : (n : ℕ) (t : Principal) → NamesBelow n (written n t)
unfolding NamesBelow
written-names n (Principal.name i) =
    cond_case (NamesBelow n) (ltb i 12 && ltb i n) (name i) bottom
    (λ h. (ltb-true i 12 (and_left (ltb i 12) (ltb i n) h), ltb-true i n (and_right (ltb i 12) (ltb i n) h)))
    (λ h. tt)
written-names n Principal.top = tt
written-names n Principal.bottom = tt
written-names n (Principal.conj p q) = (written-names n p, written-names n q)
written-names n (Principal.disj p q) = (written-names n p, written-names n q)
written-names n (Principal.project s p) = written-names n p

-- what a principal is written as means it, where its names are below n
pub written_meaning : (n : ℕ) (t : Principal) → Named n t → meaning (written n t) ≡ t
unfolding Named meaning
written_meaning n (Principal.name i) l = rw (lt-ltb i 12 l.0, lt-ltb i n l.1)
written_meaning n Principal.top l = refl
written_meaning n Principal.bottom l = refl
written_meaning n (Principal.conj p q) l = ap₂ Principal.conj (written_meaning n p l.0) (written_meaning n q l.1)
written_meaning n (Principal.disj p q) l = ap₂ Principal.disj (written_meaning n p l.0) (written_meaning n q l.1)
written_meaning n (Principal.project s p) l = ap (Principal.project s) (written_meaning n p l)

module _ (n : ℕ) (G : List Grant) (fit : GrantsBelow n G) where
  -- by rule 1
  static : (p q : Term) → NamesBelow n p → NamesBelow n q → ActsFor [] (meaning p) (meaning q) → Derives n G p q
  static p q pn qn d = rule1 pn qn ((static_acts n p q pn qn).1 d)

  -- by rule 1, of what is written: no grant is needed
  free : (p q : Principal) → ActsFor [] (meaning (written n p)) (meaning (written n q)) → Derives n G (written n p) (written n q)
  free p q d = static (written n p) (written n q) (written-names n p) (written-names n q) d

  -- a term and what its meaning is written as, either way round
  out : (t : Term) → NamesBelow n t → Derives n G t (written n (meaning t))
  out t l = static t (written n (meaning t)) l (written-names n (meaning t)) (rw (written_meaning n (meaning t) (meaning_named n t l)) self)

  back : (t : Term) → NamesBelow n t → Derives n G (written n (meaning t)) t
  back t l = static (written n (meaning t)) t (written-names n (meaning t)) l (rw (written_meaning n (meaning t) (meaning_named n t l)) self)

  -- each of the algebra's rules, as written
  pub derived : {p q : Principal} → ActsFor G p q → Derives n G (written n p) (written n q)
  unfolding meaning
  derived (bot_r {p}) = free p Principal.bottom bot_r
  derived (top_l {p}) = free Principal.top p top_l
  derived (self {p}) = free p p self
  derived (proj s d) = rule6_7 s (derived d)
  derived (proj_r s {p}) = free p (Principal.project s p) (proj_r s)
  derived (conj_l₁ {p₁} {p₂} d) = rule3 (free (Principal.conj p₁ p₂) p₁ (conj_l₁ self)) (derived d)
  derived (conj_l₂ {p₁} {p₂} d) = rule3 (free (Principal.conj p₁ p₂) p₂ (conj_l₂ self)) (derived d)
  derived (conj_r d e) = rule4 (derived d) (derived e)
  derived (disj_l d e) = rule5 (derived d) (derived e)
  derived (disj_r₁ {p₁ = p₁} {p₂ = p₂} d) = rule3 (derived d) (free p₁ (Principal.disj p₁ p₂) (disj_r₁ self))
  derived (disj_r₂ {p₁ = p₁} {p₂ = p₂} d) = rule3 (derived d) (free p₂ (Principal.disj p₁ p₂) (disj_r₂ self))
  derived (then d e) = rule3 (derived d) (derived e)
  derived (distr {p} {q} {r}) = free (Principal.conj p (Principal.disj q r)) (Principal.disj (Principal.conj p q) (Principal.conj p r)) distr
  derived (conj_project s p q) =
      free (Principal.conj (Principal.project s p) (Principal.project s q)) (Principal.project s (Principal.conj p q)) (conj_project s (meaning (written n p)) (meaning (written n q)))
  derived (disj_project s p q) =
      free (Principal.project s (Principal.disj p q)) (Principal.disj (Principal.project s p) (Principal.project s q)) (disj_project s (meaning (written n p)) (meaning (written n q)))
  derived (basis {p}) = free (Principal.conj (Principal.project _ p) (Principal.project _ p)) p basis
  derived (crossed s p) = free Principal.bottom (Principal.project _ (Principal.project s p)) (crossed s (meaning (written n p)))
  derived (grant {g} m) = rule3 (back g.p (fit g m).0) (rule3 (rule2 m) (out g.q (fit g m).1))

pub rules_complete : RulesAreComplete
rules_complete n G p q fit pn qn says =
    rule3 (out n G fit p pn) (rule3 (derived n G fit ((acts_for_terms n G p q fit pn qn).1 says)) (back n G fit q qn))

pub yes_derived : YesIsDerived
yes_derived ledger p q label day l u tp tq a =
    let f = names_fit ledger p q label day l u tp tq a in
    Iff.trans (yes_carries ledger p q label day l u tp tq a)
    (rules_complete l.names (counting u l.grants) tp tq f.grants_fit f.p_fits f.q_fits, λ d. rules_sound l.names (counting u l.grants) tp tq d)

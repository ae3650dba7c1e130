-- What Definitions 1 and 2 say beyond the rules' constructors, derived; and the cut.
use mathlib.Core.List.{List}
use Rattle.model.specs.Sides.{Side, confidentiality, integrity}
use Rattle.algebra.specs.Principals.{Principal, bottom, conj, disj, project}
use Rattle.model.specs.Grants.{Grant}
use Rattle.algebra.specs.Algebra.{other, ActsFor, bot_r, self, proj, proj_r, conj_l₁, conj_l₂, conj_r, disj_l, disj_r₁, disj_r₂, then, distr, conj_project, disj_project, basis, crossed, ProjectionLaws}

module _ {G : List Grant} where
  -- both sides together are the whole, in either order
  joined : (s : Side) (p : Principal) → ActsFor G (conj (project s p) (project (other s) p)) p
  joined confidentiality p = basis
  joined integrity p = then (conj_r (conj_l₂ self) (conj_l₁ self)) basis

  -- a side of the same side is that side
  pub twice : (s : Side) (p : Principal) → ActsFor G (project s (project s p)) (project s p)
  twice s p = then (conj_r self (then bot_r (crossed s p))) (joined s (project s p))

  -- two principals are compared side by side
  pub by_sides : {p q : Principal} → ((s : Side) → ActsFor G (project s p) (project s q)) → ActsFor G p q
  by_sides f = then (conj_r (then (proj_r confidentiality) (f confidentiality)) (then (proj_r integrity) (f integrity))) basis

  -- either of two different sides is the weakest
  apart_sides : (p q : Principal) → ActsFor G bottom (disj (project confidentiality p) (project integrity q))
  apart_sides p q =
      then
      (conj_r
      (then (crossed integrity q) (proj confidentiality (disj_r₂ self)))
      (then (crossed confidentiality p) (proj integrity (disj_r₁ self))))
      basis

  -- the cut
  pub cut : {x y a : Principal} → ActsFor G (conj x a) y → ActsFor G x (disj a y) → ActsFor G x y
  cut with_a or_a = then (conj_r self or_a) (then distr (disj_l with_a (conj_l₂ self)))

pub projection_laws : (G : List Grant) → ProjectionLaws G
projection_laws G = record {
  weaker = λ s p. proj_r s;
  monotone = λ s p q d. proj s d;
  conjunction = λ s p q. (conj_project s p q, conj_r (proj s (conj_l₁ self)) (proj s (conj_l₂ self)));
  disjunction = λ s p q. (disj_l (proj s (disj_r₁ self)) (proj s (disj_r₂ self)), disj_project s p q);
  idempotent = λ s p. (twice s p, proj_r s);
  whole = λ p. (conj_r (proj_r confidentiality) (proj_r integrity), basis);
  composed = λ s p. (bot_r, crossed s p);
  apart = λ p q. (bot_r, apart_sides p q);
}

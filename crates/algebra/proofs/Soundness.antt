-- What the algebra derives, the coalitions say.
use mathlib.Core.Path.{◌≡◌, refl, sym, ◌∙◌}
use mathlib.Core.Bool.{true, ◌&&◌, ◌||◌, false≢true, and-or_distrib_left}
use mathlib.Core.List.{List}
use Prim.Native.Nat.{ℕ}
use Rattle.model.specs.Sides.{Side, confidentiality, integrity}
use Rattle.model.specs.Grants.{Grant, sound_of}
use Rattle.algebra.specs.Principals.{Principal, conj, disj, project, held_by}
use Rattle.algebra.specs.Algebra.{other, ActsFor, bot_r, top_l, self, proj, proj_r, conj_l₁, conj_l₂, conj_r, disj_l, disj_r₁, disj_r₂, then, distr, conj_project, disj_project, basis, crossed, grant, Carries}
use Rattle.model.proofs.Truth.{and_intro, and_left, and_right, or_elim, or_left, or_right}
use Rattle.model.proofs.Sound.{sound_elim}
use Rattle.algebra.proofs.Meanings.{meaning_held, project_held}

basis_held : (t : Side) (c : ℕ) (p : Principal) → held_by (conj (project confidentiality p) (project integrity p)) t c ≡ true → held_by p t c ≡ true
unfolding held_by
basis_held confidentiality c p h = and_left (held_by p confidentiality c) true h
basis_held integrity c p h = h

crossed_held : (s t : Side) (c : ℕ) (p : Principal) → held_by (project (other s) (project s p)) t c ≡ true
unfolding held_by
crossed_held confidentiality confidentiality c p = refl
crossed_held confidentiality integrity c p = refl
crossed_held integrity confidentiality c p = refl
crossed_held integrity integrity c p = refl

module _ (G : List Grant) (t : Side) (c : ℕ) (good : sound_of G t c ≡ true) where
  kept : {p q : Principal} → ActsFor G p q → held_by p t c ≡ true → held_by q t c ≡ true
  unfolding held_by
  kept bot_r h = refl
  kept top_l h = absurd (false≢true h)
  kept self h = h
  kept (proj s {p} {q} d) h = project_held s t c (λ f. f p ≡ true → f q ≡ true) (λ k. kept d k) (λ k. refl) h
  kept (proj_r s {p}) h = project_held s t c (λ f. f p ≡ true) h refl
  kept (conj_l₁ {p₁} {p₂} d) h = kept d (and_left (held_by p₁ t c) (held_by p₂ t c) h)
  kept (conj_l₂ {p₁} {p₂} d) h = kept d (and_right (held_by p₁ t c) (held_by p₂ t c) h)
  kept (conj_r d e) h = and_intro (kept d h) (kept e h)
  kept (disj_l {p₁} {p₂} d e) h = or_elim (held_by p₁ t c) (held_by p₂ t c) (λ k. kept d k) (λ k. kept e k) h
  kept (disj_r₁ {p₂ = p₂} d) h = or_left (held_by p₂ t c) (kept d h)
  kept (disj_r₂ {p₁ = p₁} d) h = or_right (held_by p₁ t c) (kept d h)
  kept (then d e) h = kept e (kept d h)
  kept (distr {p} {q} {r}) h = sym (and-or_distrib_left (held_by p t c) (held_by q t c) (held_by r t c)) ∙ h
  kept (conj_project s p q) h = project_held s t c (λ f. f p && f q ≡ true → f (conj p q) ≡ true) (λ k. k) (λ k. refl) h
  kept (disj_project s p q) h = project_held s t c (λ f. f (disj p q) ≡ true → f p || f q ≡ true) (λ k. k) (λ k. refl) h
  kept (basis {p}) h = basis_held t c p h
  kept (crossed s p) h = crossed_held s t c p
  kept (grant {g} m) h = meaning_held g.q t c ∙ sound_elim G t c good g m (sym (meaning_held g.p t c) ∙ h)

pub soundness : (n : ℕ) (G : List Grant) {p q : Principal} → ActsFor G p q → (s : Side) → Carries n G s (held_by p) (held_by q)
soundness n G d s c l good = kept G s c good d

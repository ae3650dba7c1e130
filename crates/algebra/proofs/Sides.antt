-- A principal's two sides, its normal form and its voice.
use mathlib.Core.Path.{◌≡◌, refl, ap₂}
use mathlib.Core.Bool.{◌&&◌, ◌||◌}
use mathlib.Core.List.Memᴰ
use mathlib.Core.List.{List, []}
use Prim.Native.Nat.{ℕ}
use Rattle.model.specs.Sides.{Side, confidentiality, integrity}
use Rattle.model.specs.Grants.{Grant}
use Rattle.model.specs.Voice.{voice}
use Rattle.algebra.specs.Principals.{Principal, name, top, bottom, conj, disj, project, held_by, Named}
use Rattle.algebra.specs.Algebra.{ActsFor, bot_r, top_l, self, proj, proj_r, conj_l₁, conj_l₂, conj_r, disj_l, disj_r₁, disj_r₂, then, distr, conj_project, disj_project, basis, crossed, grant, Same, on_side, normal, voice_of, Unprojected, HasNormalForm, VoiceOfNormalForms, VoiceIsHeld}
use Rattle.algebra.proofs.Principals.{projection_laws}

-- equality in the algebra, and its use inside a principal
module _ {G : List Grant} where
  alike : {p : Principal} → Same G p p
  alike = (self, self)

  flipped : {p q : Principal} → Same G p q → Same G q p
  flipped e = (e.1, e.0)

  chained : {p q r : Principal} → Same G p q → Same G q r → Same G p r
  chained d e = (then d.0 e.0, then e.1 d.1)

  in_conj : {p q x y : Principal} → Same G p x → Same G q y → Same G (conj p q) (conj x y)
  in_conj d e = (conj_r (conj_l₁ d.0) (conj_l₂ e.0), conj_r (conj_l₁ d.1) (conj_l₂ e.1))

  in_disj : {p q x y : Principal} → Same G p x → Same G q y → Same G (disj p q) (disj x y)
  in_disj d e = (disj_l (disj_r₁ d.0) (disj_r₂ e.0), disj_l (disj_r₁ d.1) (disj_r₂ e.1))

  in_project : (s : Side) {p q : Principal} → Same G p q → Same G (project s p) (project s q)
  in_project s e = (proj s e.0, proj s e.1)

  -- a side of the other side is the weakest
  off : (s t : Side) (p : Principal) → Same G (project s (project t p)) bottom → Same G (project s (project t p)) (project s bottom)
  off s t p e = chained e (proj_r s, bot_r)

  -- on its side a principal is the part that `on_side` takes out
  side_same : (s : Side) (t : Principal) → Same G (project s t) (project s (on_side s t))
  unfolding on_side
  side_same s (name i) = alike
  side_same s top = alike
  side_same s bottom = alike
  side_same s (conj p q) =
      chained (flipped ((projection_laws G).conjunction s p q))
      (chained (in_conj (side_same s p) (side_same s q)) ((projection_laws G).conjunction s (on_side s p) (on_side s q)))
  side_same s (disj p q) =
      chained (flipped ((projection_laws G).disjunction s p q))
      (chained (in_disj (side_same s p) (side_same s q)) ((projection_laws G).disjunction s (on_side s p) (on_side s q)))
  side_same confidentiality (project confidentiality p) = chained ((projection_laws G).idempotent confidentiality p) (side_same confidentiality p)
  side_same confidentiality (project integrity p) = off confidentiality integrity p ((projection_laws G).composed integrity p)
  side_same integrity (project confidentiality p) = off integrity confidentiality p ((projection_laws G).composed confidentiality p)
  side_same integrity (project integrity p) = chained ((projection_laws G).idempotent integrity p) (side_same integrity p)

  normal-same : (t : Principal) → Same G t (normal t)
  unfolding normal
  normal-same t = chained ((projection_laws G).whole t) (in_conj (side_same confidentiality t) (side_same integrity t))

side_unprojected : (s : Side) (t : Principal) → Unprojected (on_side s t)
unfolding on_side Unprojected
side_unprojected s (name i) = tt
side_unprojected s top = tt
side_unprojected s bottom = tt
side_unprojected s (conj p q) = (side_unprojected s p, side_unprojected s q)
side_unprojected s (disj p q) = (side_unprojected s p, side_unprojected s q)
side_unprojected confidentiality (project confidentiality p) = side_unprojected confidentiality p
side_unprojected confidentiality (project integrity p) = tt
side_unprojected integrity (project confidentiality p) = tt
side_unprojected integrity (project integrity p) = side_unprojected integrity p

pub normal_form : (t : Principal) → HasNormalForm t
normal_form t = record { same = λ G. normal-same t; unprojected = λ s. side_unprojected s t }

-- on either side, the part that `on_side` takes out is held where the principal is held on that side
pub side_held : (s t : Side) (p : Principal) (c : ℕ) → held_by (on_side s p) t c ≡ held_by p s c
unfolding on_side held_by
side_held s t (name i) c = refl
side_held s t top c = refl
side_held s t bottom c = refl
side_held s t (conj p q) c = ap₂ ◌&&◌ (side_held s t p c) (side_held s t q c)
side_held s t (disj p q) c = ap₂ ◌||◌ (side_held s t p c) (side_held s t q c)
side_held confidentiality t (project confidentiality p) c = side_held confidentiality t p c
side_held confidentiality t (project integrity p) c = refl
side_held integrity t (project confidentiality p) c = refl
side_held integrity t (project integrity p) c = side_held integrity t p c

pub side_names : (n : ℕ) (s : Side) (t : Principal) → Named n t → Named n (on_side s t)
unfolding on_side Named
side_names n s (name i) l = l
side_names n s top l = tt
side_names n s bottom l = tt
side_names n s (conj p q) l = (side_names n s p l.0, side_names n s q l.1)
side_names n s (disj p q) l = (side_names n s p l.0, side_names n s q l.1)
side_names n confidentiality (project confidentiality p) l = side_names n confidentiality p l
side_names n confidentiality (project integrity p) l = tt
side_names n integrity (project confidentiality p) l = tt
side_names n integrity (project integrity p) l = side_names n integrity p l

-- the voice is held where document 01 says
pub voice-held : VoiceIsHeld
unfolding voice_of voice held_by
voice-held confidentiality q c = refl
voice-held integrity q c = ap₂ ◌&&◌ (side_held confidentiality integrity q c) (side_held integrity integrity q c)

-- a principal without projections is itself on each side
unprojected_side : (s : Side) (t : Principal) → Unprojected t → on_side s t ≡ t
unfolding on_side Unprojected
unprojected_side s (name i) u = refl
unprojected_side s top u = refl
unprojected_side s bottom u = refl
unprojected_side s (conj p q) u = ap₂ conj (unprojected_side s p u.0) (unprojected_side s q u.1)
unprojected_side s (disj p q) u = ap₂ disj (unprojected_side s p u.0) (unprojected_side s q u.1)
unprojected_side s (project t p) u = absurd u

voice-same : {G : List Grant} (q : Principal) {x y : Principal} → Same G (on_side confidentiality q) x → Same G (on_side integrity q) y
    → Same G (voice_of q) (conj (project integrity x) (project integrity y))
unfolding voice_of
voice-same q d e = in_conj (in_project integrity d) (in_project integrity e)

voice-normal : {G : List Grant} (p q : Principal) → Unprojected p → Unprojected q
    → Same G (voice_of (conj (project confidentiality p) (project integrity q))) (conj (project integrity p) (project integrity q))
unfolding on_side
voice-normal p q u v =
    voice-same (conj (project confidentiality p) (project integrity q))
    (rw (unprojected_side confidentiality p u) (conj_l₁ self, conj_r self bot_r))
    (rw (unprojected_side integrity q v) (conj_l₂ self, conj_r bot_r self))

-- what acts for a principal acts for it side by side: only the rules' own cases, no coalitions
side_acts : (s : Side) {p q : Principal} → ActsFor [] p q → ActsFor [] (on_side s p) (on_side s q)
unfolding on_side
side_acts s bot_r = bot_r
side_acts s top_l = top_l
side_acts s self = self
side_acts confidentiality (proj confidentiality d) = side_acts confidentiality d
side_acts confidentiality (proj integrity d) = self
side_acts integrity (proj confidentiality d) = self
side_acts integrity (proj integrity d) = side_acts integrity d
side_acts confidentiality (proj_r confidentiality) = self
side_acts confidentiality (proj_r integrity) = bot_r
side_acts integrity (proj_r confidentiality) = bot_r
side_acts integrity (proj_r integrity) = self
side_acts s (conj_l₁ d) = conj_l₁ (side_acts s d)
side_acts s (conj_l₂ d) = conj_l₂ (side_acts s d)
side_acts s (conj_r d e) = conj_r (side_acts s d) (side_acts s e)
side_acts s (disj_l d e) = disj_l (side_acts s d) (side_acts s e)
side_acts s (disj_r₁ d) = disj_r₁ (side_acts s d)
side_acts s (disj_r₂ d) = disj_r₂ (side_acts s d)
side_acts s (then d e) = then (side_acts s d) (side_acts s e)
side_acts s distr = distr
side_acts confidentiality (conj_project confidentiality p q) = self
side_acts confidentiality (conj_project integrity p q) = bot_r
side_acts integrity (conj_project confidentiality p q) = bot_r
side_acts integrity (conj_project integrity p q) = self
side_acts confidentiality (disj_project confidentiality p q) = self
side_acts confidentiality (disj_project integrity p q) = disj_r₁ self
side_acts integrity (disj_project confidentiality p q) = disj_r₁ self
side_acts integrity (disj_project integrity p q) = self
side_acts confidentiality basis = conj_l₁ self
side_acts integrity basis = conj_l₂ self
side_acts confidentiality (crossed confidentiality p) = self
side_acts confidentiality (crossed integrity p) = self
side_acts integrity (crossed confidentiality p) = self
side_acts integrity (crossed integrity p) = self
side_acts s (grant m) = absurd (Memᴰ.not-nil m)

pub voice_acts : {p q : Principal} → ActsFor [] p q → ActsFor [] (voice_of p) (voice_of q)
unfolding voice_of
voice_acts d = conj_r (conj_l₁ (proj integrity (side_acts _ d))) (conj_l₂ (proj integrity (side_acts _ d)))

pub voice_of_normal_forms : VoiceOfNormalForms
voice_of_normal_forms = record { definition = λ G. voice-normal; monotone = λ p q. voice_acts }

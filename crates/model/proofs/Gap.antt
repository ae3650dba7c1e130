-- The gap of p and q (document 02, K6): what it says that a coalition holds it, and that a grant is spoken; that single coalitions tell; what it has of the voice.
-- Assumes nothing.
use mathlib.Core.Path.{◌≡◌}
use mathlib.Core.Logic.Iff
use mathlib.Core.Logic.{◌↔◌}
use mathlib.Core.Bool.{Bool, true, ◌&&◌}
use Prim.Native.Nat.{ℕ, ◌^◌, ◌<◌}
use Rattle.model.specs.Sides.{Side, confidentiality, integrity}
use Rattle.model.specs.Coalitions.{Marks, within}
use Rattle.model.specs.Terms.{held}
use Rattle.model.specs.Dates.{in_days}
use Rattle.model.specs.Grants.{Grant, Under, GrantMarks, gap, visible, spoken, heard, keeps, counts_under}
use Rattle.model.specs.Meanings.{HoldsGap}
use Rattle.model.specs.Voice.{voice, spoken_by_voice, counted_by_voice}
use Rattle.model.proofs.Truth.{and_left, and_right, and_intro, bool_ext, implies_elim, implies_intro}
use Rattle.model.proofs.Search.{within_says}
use Rattle.model.proofs.Monotone.{Monotone, subset_says, held_monotone}

-- a test that holds on both sides holds on each
each_side : (f : Side → Bool) → (f confidentiality && f integrity) ≡ true ↔ ((s : Side) → f s ≡ true)
each_side f = (there, λ h. and_intro (h confidentiality) (h integrity))
  where
    there : (f confidentiality && f integrity) ≡ true → (s : Side) → f s ≡ true
    there e confidentiality = and_left (f confidentiality) (f integrity) e
    there e integrity = and_right (f confidentiality) (f integrity) e

pub gap_says : (n : ℕ) (p q : Marks) (s : Side) (c : ℕ) → gap n p q s c ≡ true ↔ HoldsGap n p q s c
unfolding gap
gap_says n p q s c = (
  λ g e l sub h. (within_says n _ (q s)).0 g e l (and_intro ((subset_says n c e).1 sub) h),
  λ g. (within_says n _ (q s)).1 (λ e l h. g e l ((subset_says n c e).0 (and_left _ _ h)) (and_right _ _ h)),
)

module _ (n : ℕ) (p q d : Marks) where
  pub spoken_says : spoken n p q d ≡ true ↔ ((s : Side) (c : ℕ) → c < 2 ^ n → d integrity c ≡ true → HoldsGap n p q s c)
  unfolding spoken
  spoken_says = (
    λ e s c l k. (gap_says n p q s c).0 ((each_side (λ s. gap n p q s c)).0 ((within_says n _ _).0 e c l k) s),
    λ h. (within_says n _ _).1 (λ c l k. (each_side (λ s. gap n p q s c)).1 (λ s. (gap_says n p q s c).1 (h s c l k))),
  )

  -- Where d is monotone single coalitions tell: of those that hold d on the change side, none holds p and not q on a side.
  pub spoken_singly : Monotone n (d integrity) → spoken n p q d ≡ true ↔ ((s : Side) (c : ℕ) → c < 2 ^ n → d integrity c ≡ true → p s c ≡ true → q s c ≡ true)
  spoken_singly more = Iff.trans spoken_says (
    λ h s c l k. h s c l k c l (λ i m e. e),
    λ h s c l k e m sub. h s e m (more c e l sub k),
  )

  -- What the voice of a monotone q spoke, the gap speaks.
  pub voice_spoken : ((s : Side) → Monotone n (q s)) → spoken_by_voice n q d ≡ true → spoken n p q d ≡ true
  unfolding spoken_by_voice voice
  voice_spoken more e = spoken_says.1 (λ s c l k b m sub _. more s c b l sub ((each_side (λ s. q s c)).0 ((within_says n _ _).0 e c l k) s))

-- So a grant is spoken exactly if each coalition that holds its label on the change side keeps it on both sides.
pub spoken_keeps : (n : ℕ) (g : GrantMarks) → Monotone n (g.label integrity) → spoken n g.p g.q g.label ≡ within n (g.label integrity) (λ c. keeps g confidentiality c && keeps g integrity c)
spoken_keeps n g more = bool_ext _ _
    (λ e. (within_says n _ _).1 (λ c l k. (each_side (λ s. keeps g s c)).1 (λ s. implies_intro (g.p s c) (g.q s c) (single.0 e s c l k))))
    (λ e. single.1 (λ s c l k. implies_elim (g.p s c) (g.q s c) ((each_side (λ s. keeps g s c)).0 ((within_says n _ _).0 e c l k) s)))
  where
    single : spoken n g.p g.q g.label ≡ true ↔ ((s : Side) (c : ℕ) → c < 2 ^ n → g.label integrity c ≡ true → g.p s c ≡ true → g.q s c ≡ true)
    single = spoken_singly n g.p g.q g.label more

-- A grant that counted by the voice counts.
pub voice_counts : (u : Under) (g : Grant) → counted_by_voice u g ≡ true → counts_under u g ≡ true
unfolding counted_by_voice counts_under heard
voice_counts u g e =
    let days = in_days g.first g.last u.day in
    let seen = visible u.names (held u.label) (held g.label) in
    let said = spoken_by_voice u.names (held g.q) (held g.label) in
    let w = and_right days (seen && said) e in
    and_intro (and_left days (seen && said) e)
    (and_intro (and_left seen said w) (voice_spoken u.names (held g.p) (held g.q) (held g.label) (held_monotone u.names g.q) (and_right seen said w)))

-- The gap in the algebra: held where document 02's is, the weakest that with p acts for q, FLAM's subtraction, and what spoken says of it.
use mathlib.Core.Path.{◌≡◌, refl, sym, ap, ◌∙◌}
use mathlib.Core.Logic.Iff
use mathlib.Core.Logic.{◌↔◌}
use mathlib.Core.Bool.{Bool, true, ◌&&◌, and-true, false≢true}
use mathlib.Core.List.{List, [], ◌∷◌, map}
use Prim.Native.Nat.{ℕ, zero, suc, ◌+◌, ◌^◌, ◌≤◌, ◌<◌}
use native.Mathlib.Decide.{ℕ_discrete}
use native.Mathlib.Omega.{arith}
use lib.Dec.{ltb}
use Rattle.model.specs.Sides.{Side, confidentiality, integrity}
use Rattle.model.specs.Coalitions.{Marks, member, those, subset}
use Rattle.model.specs.Comparing.{all_of}
use Rattle.model.specs.Terms.{Term, held}
use Rattle.model.specs.Grants.{gap, spoken, sound}
use Rattle.model.specs.Voice.{voice, spoken_by_voice}
use Rattle.algebra.specs.Principals.{Principal, name, top, bottom, conj, disj, project, held_by, Named}
use Rattle.algebra.specs.Meaning.{either_of, meaning}
use Rattle.algebra.specs.Algebra.{ActsFor, bot_r, self, proj, conj_l₁, conj_l₂, conj_r, disj_l, disj_r₁, disj_r₂, then, on_side, voice_of}
use Rattle.algebra.specs.Gap.{members, either_where, gap_of, as_both, GapIsHeld, GapIsWeakest, GapIsSubtraction, NoGap, SpokenIsActsForGap, SpokenSideBySide, SpokenIsActingTogether, VoiceActsForGap}
use Rattle.model.proofs.Truth.{and_intro, and_left, and_right, or_elim, or_left, or_right, bool_ext, cond_case}
use Rattle.model.proofs.Monotone.{Monotone, held_monotone, subset_says}
use Rattle.model.proofs.Gap.{gap_says, spoken_singly}
use Rattle.model.proofs.Telling.{all_members, names-all_members}
use Rattle.algebra.proofs.Meanings.{meaning_held, meaning_marks, meaning_named}
use Rattle.algebra.proofs.Principals.{cut}
use Rattle.algebra.proofs.Sides.{side_names, side_held, voice-held, voice_acts}
use Rattle.algebra.proofs.Exact.{none_below, Everywhere, statically, voice_named, voice_spoken}
use Rattle.algebra.proofs.SevenRules.{written, written-names, written_meaning, derived, rules_sound}

-- ---- where the gap is held

-- a principal of n names is held where the term is that it is written as, and so is monotone
written_marks : (n : ℕ) (t : Principal) → Named n t → held (written n t) ≡ held_by t
written_marks n t l = sym (meaning_marks (written n t)) ∙ ap held_by (written_meaning n t l)

by_monotone : (n : ℕ) (t : Principal) → Named n t → (s : Side) → Monotone n (held_by t s)
by_monotone n t l s = rw (written_marks n t l) at (held_monotone n (written n t) s)

members_held : (n b : ℕ) (s : Side) (c : ℕ) → held_by (members n b) s c ≡ subset n b c
members_held n b s c = meaning_held (all_of (those (λ i. member i b) 0 n)) s c ∙ all_members n b s c

-- either of the coalitions of a monotone f is held where f holds
module _ (n : ℕ) (f : ℕ → Bool) (more : Monotone n f) (s : Side) (c : ℕ) where
  abbrev held_in : List ℕ → Bool
  held_in l = held_by (either_of (map (members n) l)) s c

  either_elim : (a k : ℕ) → a + k ≤ 2 ^ n → held_in (those f a k) ≡ true → f c ≡ true
  unfolding those either_of held_by
  either_elim a zero l = λ h. absurd (false≢true h)
  either_elim a (suc k) l =
      let rest : held_in (those f (suc a) k) ≡ true → f c ≡ true = either_elim (suc a) k (omega arith) in
      cond_case (λ l. held_in l ≡ true → f c ≡ true) (f a) (a ∷ those f (suc a) k) (those f (suc a) k)
      (λ m h. or_elim (held_by (members n a) s c) (held_in (those f (suc a) k)) (λ e. more a c (omega arith) ((subset_says n a c).0 (sym (members_held n a s c) ∙ e)) m) rest h)
      (λ m. rest)

  either_intro : (a k : ℕ) → a ≤ c → c < a + k → f c ≡ true → held_in (those f a k) ≡ true
  unfolding those either_of held_by
  either_intro a zero l m h = absurd (omega arith)
  either_intro a (suc k) l m h = elim (ℕ_discrete a c) [
    | yes e ↦ rw (e, h) (or_left (held_in (those f (suc c) k)) (members_held n c s c ∙ (subset_says n c c).1 (λ i l m. m)))
    | no ne ↦ (let rest = either_intro (suc a) k (omega arith) (omega arith) h in
        cond_case (λ l. held_in l ≡ true) (f a) (a ∷ those f (suc a) k) (those f (suc a) k) (λ _. or_right (held_by (members n a) s c) rest) (λ _. rest))
  ]

  either_held : c < 2 ^ n → held_by (either_where n f) s c ≡ f c
  either_held l = bool_ext (held_by (either_where n f) s c) (f c) (either_elim 0 (2 ^ n) (omega arith)) (either_intro 0 (2 ^ n) (omega arith) (omega arith))

gap_monotone : (n : ℕ) (p q : Marks) (s : Side) → Monotone n (gap n p q s)
gap_monotone n p q s b c l sub h = (gap_says n p q s c).1 (λ e m over. (gap_says n p q s b).0 h e m (λ i k j. over i k (sub i k j)))

pub gap-held : GapIsHeld
unfolding gap_of held_by
gap-held n p q confidentiality c l =
    let f = gap n (held_by p) (held_by q) confidentiality in
    and-true (held_by (either_where n f) confidentiality c) ∙ either_held n f (gap_monotone n (held_by p) (held_by q) confidentiality) confidentiality c l
gap-held n p q integrity c l =
    either_held n (gap n (held_by p) (held_by q) integrity) (gap_monotone n (held_by p) (held_by q) integrity) integrity c l

-- ---- its names

either_named : (n : ℕ) → n ≤ 12 → (l : List ℕ) → Named n (either_of (map (members n) l))
unfolding either_of Named
either_named n small [] = tt
either_named n small (b ∷ l) = (meaning_named n _ (names-all_members n small b), either_named n small l)

gap_named : (n : ℕ) → n ≤ 12 → (p q : Principal) → Named n (gap_of n p q)
unfolding gap_of Named
gap_named n small p q = (either_named n small _, either_named n small _)

-- ---- the weakest, and so the rest of the minimal factorization

-- any principal acts for what it is written as
written_acts : (n : ℕ) (t : Principal) → ActsFor [] t (meaning (written n t))
unfolding meaning
written_acts n (name i) = cond_case (λ w. ActsFor [] (name i) (meaning w)) (ltb i 12 && ltb i n) (Term.name i) Term.bottom (λ e. self) (λ e. bot_r)
written_acts n top = self
written_acts n bottom = self
written_acts n (conj p q) = conj_r (conj_l₁ (written_acts n p)) (conj_l₂ (written_acts n q))
written_acts n (disj p q) = disj_l (disj_r₁ (written_acts n p)) (disj_r₂ (written_acts n q))
written_acts n (project s p) = proj s (written_acts n p)

module _ (n : ℕ) (small : n ≤ 12) (p q : Principal) (pn : Named n p) (qn : Named n q) where
  -- with p, the gap acts for q
  together : ActsFor [] (conj p (gap_of n p q)) q
  unfolding held_by Named
  together = (statically n (conj p (gap_of n p q)) q (pn, gap_named n small p q) qn).1 (λ s c l h.
      let a = held_by p s c in
      let g = held_by (gap_of n p q) s c in
      (gap_says n (held_by p) (held_by q) s c).0 (sym (gap-held n p q s c l) ∙ and_right a g h) c l (λ i m k. k) (and_left a g h))

  -- If r does, so does what r is written as: no other names are needed.
  within_names : (r : Principal) → ActsFor [] (conj p r) q → (s : Side) (c : ℕ) → c < 2 ^ n → (held_by p s c && held (written n r) s c) ≡ true → held_by q s c ≡ true
  unfolding held sound
  within_names r d s c l =
      rw (written_marks n p pn, written_marks n q qn) at (rules_sound n [] (written n (conj p r)) (written n q) (derived n [] (none_below n) d) s c l refl)

  -- and that acts for the gap: what it holds it holds with more members
  weakest : (r : Principal) → ActsFor [] (conj p r) q → ActsFor [] r (gap_of n p q)
  weakest r d =
      let w = written n r in
      then (written_acts n r)
      ((statically n (meaning w) (gap_of n p q) (meaning_named n w (written-names n r)) (gap_named n small p q)).1 (λ s c l h.
      gap-held n p q s c l ∙ (gap_says n (held_by p) (held_by q) s c).1 (λ e m over k.
      within_names r d s e m (and_intro k (held_monotone n w s c e l over (sym (meaning_held w s c) ∙ h))))))

  q_acts : ActsFor [] q (gap_of n p q)
  q_acts = weakest q (conj_l₂ self)

pub gap-weakest : GapIsWeakest
gap-weakest n small p q r pn qn = (
  weakest n small p q pn qn r,
  λ d. then (conj_r (conj_l₁ self) (conj_l₂ d)) (together n small p q pn qn),
)

pub gap-subtraction : GapIsSubtraction
gap-subtraction n small p q pn qn = record {
  factors = record {
    whole = (
      conj_r (disj_r₂ self) (q_acts n small p q pn qn),
      cut (then (conj_r (conj_l₂ self) (conj_l₁ (conj_l₂ self))) (together n small p q pn qn)) (conj_l₁ self),
    );
    has = disj_r₁ self;
  };
  greatest = λ x y f. disj_l f.has (then f.whole.0 (conj_l₁ self));
  least = λ x y f. weakest n small p q pn qn y (then (conj_r (conj_l₁ f.has) (conj_l₂ self)) f.whole.1);
}

pub no_gap : NoGap
no_gap n small p q pn qn =
    let none = gap-weakest n small p q bottom pn qn in
    let own = gap-weakest n small p q p pn qn in
    record {
      none = (λ d. none.0 (conj_l₁ d), λ d. then (conj_r self bot_r) (none.1 d));
      own = (λ d. own.0 (conj_l₁ d), λ d. then (conj_r self self) (own.1 d));
    }

pub voice-gap : VoiceActsForGap
voice-gap n small p q pn qn = voice_acts (q_acts n small p q pn qn)

-- ---- spoken

both_held : (d : Principal) (s : Side) (c : ℕ) → held_by (as_both d) s c ≡ held_by d integrity c
unfolding as_both held_by
both_held d confidentiality c = and-true (held_by (on_side integrity d) confidentiality c) ∙ side_held integrity confidentiality d c
both_held d integrity c = side_held integrity integrity d c

-- on the change side the voice of a projection is held where its part is on that side
voice_side : (s : Side) (p : Principal) (c : ℕ) → held_by (voice_of (project s p)) integrity c ≡ held_by p s c
unfolding held_by voice
voice_side confidentiality p c = voice-held integrity (project confidentiality p) c ∙ and-true (held_by p confidentiality c)
voice_side integrity p c = voice-held integrity (project integrity p) c

module _ (n : ℕ) (p q d : Principal) (pn : Named n p) (qn : Named n q) (dn : Named n d) where
  abbrev Spoken : Type 0
  Spoken = spoken n (held_by p) (held_by q) (held_by d) ≡ true

  -- where d is held on the change side, q is held on the side if p is
  abbrev Filled : Side → Type 0
  Filled s = (c : ℕ) → c < 2 ^ n → held_by d integrity c ≡ true → held_by p s c ≡ true → held_by q s c ≡ true

  filled : Spoken ↔ ((s : Side) → Filled s)
  filled = spoken_singly n (held_by p) (held_by q) (held_by d) (by_monotone n d dn integrity)

  spoken_together : Spoken ↔ ActsFor [] (conj p (as_both d)) q
  unfolding Named held_by as_both
  spoken_together = Iff.trans filled (Iff.trans (there, back) (Iff.symm (statically n (conj p (as_both d)) q (pn, (side_names n integrity d dn, side_names n integrity d dn)) qn)))
    where
      there : ((s : Side) → Filled s) → Everywhere n (held_by (conj p (as_both d))) (held_by q)
      there f s c l h =
          let b = held_by (as_both d) s c in
          f s c l (sym (both_held d s c) ∙ and_right (held_by p s c) b h) (and_left (held_by p s c) b h)

      back : Everywhere n (held_by (conj p (as_both d))) (held_by q) → (s : Side) → Filled s
      back f s c l k h = f s c l (and_intro h (both_held d s c ∙ k))

  -- spoken by the voice, but of the gap
  spoken_gap : n ≤ 12 → Spoken ↔ ActsFor [] (project integrity d) (voice_of (gap_of n p q))
  unfolding spoken spoken_by_voice voice
  spoken_gap small = voice_spoken n (gap n (held_by p) (held_by q)) (gap_of n p q) d (gap-held n p q) (gap_named n small p q) dn

  -- a side by itself: what the voices hold on the change side
  sided : (s : Side) → Filled s ↔ ActsFor [] (conj (voice_of (project s p)) (project integrity d)) (voice_of (project s q))
  unfolding Named held_by voice
  sided s =
      Iff.trans (there, λ f c l k h. sym (voice_side s q c) ∙ f integrity c l (and_intro (voice_side s p c ∙ h) k))
      (Iff.symm (statically n (conj (voice_of (project s p)) (project integrity d)) (voice_of (project s q)) (voice_named n (project s p) pn, dn) (voice_named n (project s q) qn)))
    where
      there : Filled s → Everywhere n (held_by (conj (voice_of (project s p)) (project integrity d))) (held_by (voice_of (project s q)))
      there f confidentiality c l h = voice-held confidentiality (project s q) c
      there f integrity c l h =
          let v = held_by (voice_of (project s p)) integrity c in
          let k = held_by d integrity c in
          voice_side s q c ∙ f c l (and_right v k h) (sym (voice_side s p c) ∙ and_left v k h)

  spoken_sided : n ≤ 12 → Spoken ↔ ((s : Side) → ActsFor [] (project integrity d) (gap_of n (voice_of (project s p)) (voice_of (project s q))))
  unfolding Named
  spoken_sided small = Iff.trans filled (λ f s. (each s).0 (f s), λ f s. (each s).1 (f s))
    where
      each : (s : Side) → Filled s ↔ ActsFor [] (project integrity d) (gap_of n (voice_of (project s p)) (voice_of (project s q)))
      each s = Iff.trans (sided s) (gap-weakest n small (voice_of (project s p)) (voice_of (project s q)) (project integrity d) (voice_named n (project s p) pn) (voice_named n (project s q) qn))

-- the same of terms
pub spoken-together : SpokenIsActingTogether
spoken-together n p q d pn qn dn =
    rw (meaning_marks p, meaning_marks q, meaning_marks d) at
    (spoken_together n (meaning p) (meaning q) (meaning d) (meaning_named n p pn) (meaning_named n q qn) (meaning_named n d dn))

pub spoken-gap : SpokenIsActsForGap
spoken-gap n small p q d pn qn dn =
    rw (meaning_marks p, meaning_marks q, meaning_marks d) at
    (spoken_gap n (meaning p) (meaning q) (meaning d) (meaning_named n p pn) (meaning_named n q qn) (meaning_named n d dn) small)

pub spoken-sided : SpokenSideBySide
spoken-sided n small p q d pn qn dn =
    rw (meaning_marks p, meaning_marks q, meaning_marks d) at
    (spoken_sided n (meaning p) (meaning q) (meaning d) (meaning_named n p pn) (meaning_named n q qn) (meaning_named n d dn) small)

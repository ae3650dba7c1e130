-- What the test of a coalition says: its verdict, and how many grants it tested. Assumes nothing.
use mathlib.Core.Path.{◌≡◌, refl, sym, ap, ap₂, ◌∙◌, subst}
use mathlib.Core.Logic.{◌↔◌, ⊎_elim}
use Prim.Native.Nat.{ℕ, suc, ◌+◌, ◌≤◌}
use native.Mathlib.Nat.{zero-add, suc-add}
use native.Mathlib.Omega.{arith}
use mathlib.Core.Bool.{Bool, true, false, cond, ◌&&◌, true≢false, false≢true}
use mathlib.Core.List.Memᴰ
use mathlib.Core.List.{List, [], ◌∷◌, ◌++◌}
use lib.ListN.{length}
use Rattle.model.specs.Sides.{Side}
use Rattle.model.specs.Coalitions.{implies}
use Rattle.model.specs.Terms.{held}
use Rattle.model.specs.Grants.{Grant, marks_of, keeps, sound, sound_of}
use Rattle.model.specs.Testing.{Tested, one_more, ended, test, test_of}
use Rattle.model.specs.Meanings.{Keeps, BreaksFirst}
use Rattle.model.proofs.Truth.{implies_elim}
use Rattle.model.proofs.Sound.{sound_elim, sound_intro}

module _ (s : Side) (c : ℕ) where
  -- the verdict is whether the coalition is sound
  pub test-sound : (gs : List Grant) → (test_of gs s c).is_sound ≡ sound_of gs s c
  unfolding test sound
  test-sound [] = refl
  test-sound (g ∷ gs) = by (test-sound gs) (keeps (marks_of g) s c)
    where
      by : (test_of gs s c).is_sound ≡ sound_of gs s c → (b : Bool) → (cond b (one_more (test_of gs s c)) ended).is_sound ≡ (b && sound_of gs s c)
      by ih true = ih
      by ih false = refl

  -- no more grants are tested than there are
  pub test_most : (gs : List Grant) → (test_of gs s c).tested ≤ length gs
  unfolding test
  test_most [] = omega arith
  test_most (g ∷ gs) = by (test_most gs) (keeps (marks_of g) s c)
    where
      by : (test_of gs s c).tested ≤ length gs → (b : Bool) → (cond b (one_more (test_of gs s c)) ended).tested ≤ suc (length gs)
      by ih true = omega arith
      by ih false = omega arith

  -- all of them, where the coalition is sound
  pub test_all : (gs : List Grant) → (test_of gs s c).is_sound ≡ true → (test_of gs s c).tested ≡ length gs
  unfolding test
  test_all [] e = refl
  test_all (g ∷ gs) e = by (λ h. test_all gs h) (keeps (marks_of g) s c) e
    where
      by : ((test_of gs s c).is_sound ≡ true → (test_of gs s c).tested ≡ length gs) → (b : Bool)
          → (cond b (one_more (test_of gs s c)) ended).is_sound ≡ true → (cond b (one_more (test_of gs s c)) ended).tested ≡ suc (length gs)
      by ih true h = ap suc (ih h)
      by ih false h = absurd (false≢true h)

  module _ (hs : List Grant) where
    -- further grants change nothing where one is broken
    pub test-ended : (gs : List Grant) → (test_of gs s c).is_sound ≡ false → test_of (gs ++ hs) s c ≡ test_of gs s c
    unfolding test
    test-ended [] e = absurd (true≢false e)
    test-ended (g ∷ gs) e = by (λ h. test-ended gs h) (keeps (marks_of g) s c) e
      where
        by : ((test_of gs s c).is_sound ≡ false → test_of (gs ++ hs) s c ≡ test_of gs s c) → (b : Bool)
            → (cond b (one_more (test_of gs s c)) ended).is_sound ≡ false → cond b (one_more (test_of (gs ++ hs) s c)) ended ≡ cond b (one_more (test_of gs s c)) ended
        by ih true h = ap one_more (ih h)
        by ih false h = refl

    -- and where none is, the test goes on with them
    pub test_goes_on : (gs : List Grant) → (test_of gs s c).is_sound ≡ true → (test_of (gs ++ hs) s c).tested ≡ length gs + (test_of hs s c).tested
    unfolding test
    test_goes_on [] e = sym (zero-add (test_of hs s c).tested)
    test_goes_on (g ∷ gs) e = by (λ h. test_goes_on gs h) (keeps (marks_of g) s c) e
      where
        by : ((test_of gs s c).is_sound ≡ true → (test_of (gs ++ hs) s c).tested ≡ length gs + (test_of hs s c).tested) → (b : Bool)
            → (cond b (one_more (test_of gs s c)) ended).is_sound ≡ true → (cond b (one_more (test_of (gs ++ hs) s c)) ended).tested ≡ suc (length gs) + (test_of hs s c).tested
        by ih true h = ap suc (ih h) ∙ sym (suc-add (length gs) (test_of hs s c).tested)
        by ih false h = absurd (false≢true h)

  -- one grant is tested, kept or broken
  test_one : (g : Grant) → (test_of (g ∷ []) s c).tested ≡ 1
  unfolding test
  test_one g = by (keeps (marks_of g) s c)
    where
      by : (b : Bool) → (cond b (one_more (test_of [] s c)) ended).tested ≡ 1
      by true = refl
      by false = refl

  pub test_next : (gs : List Grant) (g : Grant) → (test_of gs s c).is_sound ≡ true → (test_of (gs ++ g ∷ []) s c).tested ≡ length gs + 1
  test_next gs g e = test_goes_on (g ∷ []) gs e ∙ ap (λ (x : ℕ). length gs + x) (test_one g)

  -- ---- where it ended

  not_kept : (a b : Bool) → implies a b ≡ false → (a ≡ true) × (b ≡ false)
  not_kept true b e = (refl, e)
  not_kept false b e = absurd (true≢false e)

  -- it ended at the first grant that the coalition breaks
  first_broken : (gs : List Grant) → (test_of gs s c).is_sound ≡ false → BreaksFirst gs s c (test_of gs s c).tested
  unfolding test
  first_broken [] e = absurd (true≢false e)
  first_broken (g ∷ gs) e = by (λ h. first_broken gs h) (keeps (marks_of g) s c) refl e
    where
      by : ((test_of gs s c).is_sound ≡ false → BreaksFirst gs s c (test_of gs s c).tested) → (b : Bool) → keeps (marks_of g) s c ≡ b → (cond b (one_more (test_of gs s c)) ended).is_sound ≡ false → BreaksFirst (g ∷ gs) s c (cond b (one_more (test_of gs s c)) ended).tested
      by ih true k h =
          let later = ih h in
          record {
            before = g ∷ later.before;
            grant = later.grant;
            after = later.after;
            are = ap (λ (l : List Grant). g ∷ l) later.are;
            number = ap suc later.number;
            kept = λ d m. ⊎_elim (λ q. rw q (implies_elim (held g.p s c) (held g.q s c) k)) (later.kept d) (Memᴰ.cases_cons m);
            holds_p = later.holds_p;
            lacks_q = later.lacks_q;
          }
      by ih false k h =
          let both = not_kept (held g.p s c) (held g.q s c) k in
          record {
            before = [];
            grant = g;
            after = gs;
            are = refl;
            number = refl;
            kept = λ d m. absurd (Memᴰ.not-nil m);
            holds_p = both.0;
            lacks_q = both.1;
          }

  -- and a grant that is broken, where all before it are kept, ends it
  module _ (g : Grant) (after : List Grant) (broken : keeps (marks_of g) s c ≡ false) where
    ends_there : (before : List Grant) → sound_of before s c ≡ true → test_of (before ++ g ∷ after) s c ≡ record { is_sound = false; tested = suc (length before) }
    unfolding test sound
    ends_there [] e = ap (λ (b : Bool). cond b (one_more (test_of after s c)) ended) broken
    ends_there (h ∷ hs) e = by (λ k. ends_there hs k) (keeps (marks_of h) s c) e
      where
        by : (sound_of hs s c ≡ true → test_of (hs ++ g ∷ after) s c ≡ record { is_sound = false; tested = suc (length hs) }) → (b : Bool) → (b && sound_of hs s c) ≡ true → cond b (one_more (test_of (hs ++ g ∷ after) s c)) ended ≡ record { is_sound = false; tested = suc (suc (length hs)) }
        by ih true k = ap one_more (ih k)
        by ih false k = absurd (false≢true k)

  pub broken_exactly : (gs : List Grant) (t : ℕ) → test_of gs s c ≡ record { is_sound = false; tested = t } ↔ BreaksFirst gs s c t
  broken_exactly gs t = (
    λ e. subst (BreaksFirst gs s c) (ap (λ (x : Tested). x.tested) e) (first_broken gs (ap (λ (x : Tested). x.is_sound) e)),
    λ b. rw (b.are, b.number) (ends_there b.grant b.after (rw (b.holds_p, b.lacks_q)) b.before (sound_intro b.before s c b.kept)),
  )

  pub sound_exactly : (gs : List Grant) (t : ℕ) → test_of gs s c ≡ record { is_sound = true; tested = t } ↔ (Keeps gs s c × (t ≡ length gs))
  sound_exactly gs t = (
    λ e.
        let is : (test_of gs s c).is_sound ≡ true = ap (λ (x : Tested). x.is_sound) e in
        (sound_elim gs s c (sym (test-sound gs) ∙ is), sym (ap (λ (x : Tested). x.tested) e) ∙ test_all gs is),
    λ k.
        let is : (test_of gs s c).is_sound ≡ true = test-sound gs ∙ sound_intro gs s c k.0 in
        ap₂ (λ (b : Bool) (n : ℕ). record { is_sound = b; tested = n }) is (test_all gs is ∙ sym k.1),
  )

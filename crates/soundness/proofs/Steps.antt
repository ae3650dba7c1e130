-- Rows of the coalitions that keep each grant whose bit is set, one grant after another. Assumes nothing.
use mathlib.Core.Path.{◌≡◌, refl, sym, ap, ◌∙◌}
use mathlib.Core.Bool.{Bool, true, false, cond, not, ◌&&◌, and-true, and_assoc}
use mathlib.Core.List.{List, [], ◌∷◌, ◌++◌}
use Prim.Native.Nat.{ℕ, ◌+◌, ◌≤◌}
use native.Mathlib.Numerals.{add-one}
use native.Mathlib.Decide.{le_ind}
use lib.Bits.{bit_and}
use Rattle.model.specs.Sides.{Side}
use Rattle.model.specs.Coalitions.{member, Marks, implies}
use Rattle.model.specs.Terms.{held}
use Rattle.model.specs.Grants.{Grant, marks_of, keeps, sound, sound_of}
use Rattle.model.specs.Testing.{Tested, test_of}
use Rattle.model.proofs.Truth.{clash}
use Rattle.model.proofs.Sound.{sound-append}
use Rattle.model.proofs.Testing.{test-sound, test-ended}
use Rattle.words.specs.declared.Rows.{Rows}
use Rattle.words.specs.FourWords.{RowsAt, each_row, lacks_word, empty_rows}
use Rattle.words.proofs.FourWords.{rows_cong, rows_empty, rows_both, rows_rest}
use Rattle.counting.specs.Counted.{grant_in}
use Rattle.soundness.specs.Keeping.{breaks, chosen_in, sound_in}

-- ---- one grant

module _ (d : Grant) (f : Marks) (g : ℕ) (of p : Rows) (a : RowsAt f g of) (b : RowsAt (held d.p) g p) where
  -- those that hold its p and not its q
  pub broken_rows : (q r : Rows) → RowsAt (held d.q) g q → r ≡ each_row lacks_word (each_row bit_and of p) q → RowsAt (λ s c. f s c && breaks (marks_of d) s c) g r
  broken_rows q r h e =
      rw e (rows_cong g _ _ _ (λ s c _ _. and_assoc (f s c) (held d.p s c) (not (held d.q s c))) (rows_rest g _ _ _ _ (rows_both g _ _ _ _ a b) h))

  -- none, where none holds its p
  pub broken_none : (r : Rows) → r ≡ each_row bit_and of p → empty_rows r ≡ true → RowsAt (λ s c. f s c && breaks (marks_of d) s c) g r
  broken_none r e none =
      let holding : RowsAt (λ s c. f s c && held d.p s c) g r = rw e (rows_both g _ _ _ _ a b) in
      rows_cong g _ _ r (λ s c low high. same (f s c) (held d.p s c) (not (held d.q s c)) (rows_empty g _ r holding none s c low high)) holding
    where
      same : (f p n : Bool) → (f && p) ≡ false → (f && p) ≡ (f && (p && n))
      same false p n e = refl
      same true false n e = refl
      same true true n e = absurd (clash refl e)

-- those of f that keep the grant
abbrev pub keeping : Marks → Grant → Marks
keeping f d s c = f s c && keeps (marks_of d) s c

not_broken : (f p q : Bool) → (f && not (f && (p && not q))) ≡ (f && implies p q)
not_broken false p q = refl
not_broken true false q = refl
not_broken true true true = refl
not_broken true true false = refl

-- they are those of f that don't break it
pub kept_rows : (d : Grant) (f : Marks) (g : ℕ) (of gone r : Rows) → RowsAt f g of → RowsAt (λ s c. f s c && breaks (marks_of d) s c) g gone → r ≡ each_row lacks_word of gone → RowsAt (keeping f d) g r
kept_rows d f g of gone r a b e =
    rw e (rows_cong g _ _ _ (λ s c _ _. not_broken (f s c) (held d.p s c) (held d.q s c)) (rows_rest g _ _ _ _ a b))

-- and where none breaks it, all
pub kept_all : (d : Grant) (f : Marks) (g : ℕ) (of gone : Rows) → RowsAt f g of → RowsAt (λ s c. f s c && breaks (marks_of d) s c) g gone → empty_rows gone ≡ true → RowsAt (keeping f d) g of
kept_all d f g of gone a b none =
    rows_cong g _ _ of (λ s c low high. same (f s c) (held d.p s c) (held d.q s c) (rows_empty g _ gone b none s c low high)) a
  where
    same : (f p q : Bool) → (f && (p && not q)) ≡ false → f ≡ (f && implies p q)
    same false p q e = refl
    same true false q e = refl
    same true true true e = refl
    same true true false e = absurd (clash refl e)

-- ---- the grants one after another

module _ (ledger : List ℕ) (bits : ℕ) where
  pub chosen_next : (k : ℕ) → chosen_in ledger (k + 1) bits ≡ chosen_in ledger k bits ++ cond (member k bits) (grant_in ledger k ∷ []) []
  unfolding chosen_in
  chosen_next k = ap (λ (j : ℕ). chosen_in ledger j bits) (add-one k)

  sound_next : (k : ℕ) (s : Side) (c : ℕ) → sound_in ledger (k + 1) bits s c ≡ (sound_in ledger k bits s c && implies (member k bits) (keeps (marks_of (grant_in ledger k)) s c))
  unfolding sound_in sound
  sound_next k s c =
      ap (λ (gs : List Grant). sound_of gs s c) (chosen_next k)
      ∙ sound-append (chosen_in ledger k bits) (cond (member k bits) (grant_in ledger k ∷ []) []) s c
      ∙ ap (λ (b : Bool). sound_of (chosen_in ledger k bits) s c && b) (by (member k bits))
    where
      by : (b : Bool) → sound_of (cond b (grant_in ledger k ∷ []) []) s c ≡ implies b (keeps (marks_of (grant_in ledger k)) s c)
      by true = and-true (keeps (marks_of (grant_in ledger k)) s c)
      by false = refl

  module _ (s : Side) (c k : ℕ) where
    -- the test says whether it is sound
    pub test_says : (test_of (chosen_in ledger k bits) s c).is_sound ≡ sound_in ledger k bits s c
    unfolding sound_in
    test_says = test-sound s c (chosen_in ledger k bits)

    -- one of the first k is broken: the test of more grants is the same
    pub broken_stays : (m : ℕ) → sound_in ledger k bits s c ≡ false → k ≤ m → test_of (chosen_in ledger m bits) s c ≡ test_of (chosen_in ledger k bits) s c
    broken_stays m e =
        le_ind (λ (j : ℕ). test_of (chosen_in ledger j bits) s c ≡ test_of (chosen_in ledger k bits) s c) refl
        (λ j h q. unfold chosen_in in (test-ended s c _ (chosen_in ledger j bits) (ap (λ (t : Tested). t.is_sound) q ∙ test_says ∙ e) ∙ q)) m

  -- so it is not sound with more either
  pub unsound_stays : (s : Side) (c k m : ℕ) → sound_in ledger k bits s c ≡ false → k ≤ m → sound_in ledger m bits s c ≡ false
  unsound_stays s c k m e h = sym (test_says s c m) ∙ ap (λ (t : Tested). t.is_sound) (broken_stays s c k m e h) ∙ test_says s c k ∙ e

module _ (ledger : List ℕ) (chosen : ℕ) (f : Marks) (g : ℕ) where
  -- those of f that keep each of the first k grants whose bit is set
  abbrev pub keep_first : ℕ → Marks
  keep_first k s c = f s c && sound_in ledger k chosen s c

  pub keep_none : (of : Rows) → RowsAt f g of → RowsAt (keep_first 0) g of
  unfolding sound_in chosen_in sound
  keep_none of h = rows_cong g f (keep_first 0) of (λ s c _ _. sym (and-true (f s c))) h

  -- no coalition is left, so none is with further grants
  pub keep_empty : (k grants : ℕ) (x : Rows) → k ≤ grants → RowsAt (keep_first k) g x → empty_rows x ≡ true → RowsAt (keep_first grants) g x
  keep_empty k grants x most h none =
      rows_cong g (keep_first k) (keep_first grants) x (λ s c low high.
      gone (f s c) (sound_in ledger k chosen s c) (sound_in ledger grants chosen s c) (λ e. unsound_stays ledger chosen s c k grants e most)
      (rows_empty g (keep_first k) x h none s c low high)) h
    where
      gone : (a b d : Bool) → (b ≡ false → d ≡ false) → (a && b) ≡ false → (a && b) ≡ (a && d)
      gone false b d i z = refl
      gone true b d i z = z ∙ sym (i z)

  module _ (k : ℕ) (x : Rows) where
    -- those that keep grant k if its bit is set
    pub keep_step : RowsAt (λ s c. keep_first k s c && implies (member k chosen) (keeps (marks_of (grant_in ledger k)) s c)) g x → RowsAt (keep_first (k + 1)) g x
    keep_step = rows_cong g _ (keep_first (k + 1)) x (λ s c _ _.
        and_assoc (f s c) (sound_in ledger k chosen s c) (implies (member k chosen) (keeps (marks_of (grant_in ledger k)) s c)) ∙ ap (λ (b : Bool). f s c && b) (sym (sound_next ledger chosen k s c)))

    -- the bit is set, and those of the rows that keep the grant were taken
    pub keep_more : member k chosen ≡ true → RowsAt (keeping (keep_first k) (grant_in ledger k)) g x → RowsAt (keep_first (k + 1)) g x
    keep_more on h = keep_step (rw on h)

    -- the bit is not set
    pub keep_skip : member k chosen ≡ false → RowsAt (keep_first k) g x → RowsAt (keep_first (k + 1)) g x
    keep_skip off h = keep_step (rw off (rows_cong g (keep_first k) (λ s c. keep_first k s c && true) x (λ s c _ _. sym (and-true (keep_first k s c))) h))

-- How many grants are tested for the coalitions of two rows, one grant after another, and for one coalition alone. Assumes nothing.
use mathlib.Core.Path.{◌≡◌, refl, sym, ap, ap₂, ◌∙◌, subst}
use mathlib.Core.Bool.{Bool, true, false, cond, not, ◌&&◌, false≢true}
use mathlib.Core.List.{List, [], ◌∷◌, ◌++◌, append-nil}
use Prim.Native.Nat.{ℕ, zero, suc, ◌+◌, ◌-◌, ◌*◌, ◌/◌, ◌≤◌, ◌<◌, max}
use native.Mathlib.Nat.{le_antisymm}
use native.Mathlib.Omega.{arith}
use lib.ListN.{length, length-append}
use lib.Dec.{eqb}
use borrow.Author.Tests.{eq-eqb, eqb-true}
use Rattle.model.specs.Sides.{Side, confidentiality, integrity}
use Rattle.model.specs.Coalitions.{member, Marks}
use Rattle.model.specs.Grants.{Grant, marks_of}
use Rattle.model.specs.Testing.{Tested, test_of}
use Rattle.model.proofs.Truth.{and_left, and_right}
use Rattle.model.proofs.Largest.{largest_least, largest_above, largest_cong}
use Rattle.model.proofs.Testing.{test_most, test_all, test_next}
use Rattle.words.specs.declared.Row.{Row}
use Rattle.words.specs.declared.Rows.{Rows}
use Rattle.words.specs.FourWords.{RowAt, RowsAt, each_row, lacks_word, same_row, sided, empty_rows}
use Rattle.words.proofs.FourWords.{row_none, rows_of, MarkedIn, rows_empty, rows_some}
use Rattle.counting.specs.Counted.{grant_in}
use Rattle.soundness.specs.declared.Kept.{Kept}
use Rattle.soundness.specs.Keeping.{breaks, chosen_in, sound_in}
use Rattle.soundness.specs.Testing.{test_in, only, tested_for, most_on, most_tested, TestedTo}
use Rattle.soundness.proofs.Steps.{chosen_next, test_says, broken_stays, kept_rows, keep_first, keep_none, keep_empty, keep_more, keep_skip}

-- ---- the largest of a row

module _ (gs : List Grant) (f : Marks) (g : ℕ) where
  most_least : (t : ℕ) → ((s : Side) (c : ℕ) → tested_for gs f s c ≤ t) → most_tested gs f g ≤ t
  unfolding most_tested
  most_least t h = omega (arith, on confidentiality, on integrity)
    where
      on : (s : Side) → most_on gs f g s ≤ t
      on s = largest_least (λ j. tested_for gs f s (256 * g + j)) 256 t (λ j _. h s (256 * g + j))

  most_above : (s : Side) (c : ℕ) → 256 * g ≤ c → c < 256 * g + 256 → tested_for gs f s c ≤ most_tested gs f g
  unfolding most_tested
  most_above s c low high = by s
    where
      there : 256 * g + (c - 256 * g) ≡ c
      there = omega arith

      on : (s : Side) → tested_for gs f s c ≤ most_on gs f g s
      on s = subst (λ (d : ℕ). tested_for gs f s d ≤ most_on gs f g s) there (largest_above (λ j. tested_for gs f s (256 * g + j)) 256 (c - 256 * g) (omega arith))

      by : (s : Side) → tested_for gs f s c ≤ max (most_on gs f g confidentiality) (most_on gs f g integrity)
      by confidentiality = omega (arith, on confidentiality)
      by integrity = omega (arith, on integrity)

  -- it is t, where that is the number for one of the row and no more than t are tested for any
  most_at : (s : Side) (c t : ℕ) → 256 * g ≤ c → c < 256 * g + 256 → tested_for gs f s c ≡ t → ((r : Side) (d : ℕ) → tested_for gs f r d ≤ t) → most_tested gs f g ≡ t
  most_at s c t low high e h = le_antisymm (most_least t h) (omega (arith, most_above s c low high))

most_cong : (gs hs : List Grant) (f : Marks) (g : ℕ) → ((s : Side) (c : ℕ) → 256 * g ≤ c → c < 256 * g + 256 → tested_for gs f s c ≡ tested_for hs f s c) → most_tested gs f g ≡ most_tested hs f g
unfolding most_tested
most_cong gs hs f g e = ap₂ max (on confidentiality) (on integrity)
  where
    on : (s : Side) → most_on gs f g s ≡ most_on hs f g s
    on s = largest_cong (λ j. tested_for gs f s (256 * g + j)) (λ j. tested_for hs f s (256 * g + j)) 256 (λ j l. e s (256 * g + j) (omega arith) (omega arith))

-- no more than there are
tested_most : (gs : List Grant) (f : Marks) (s : Side) (c : ℕ) → tested_for gs f s c ≤ length gs
tested_most gs f s c = by (f s c)
  where
    by : (b : Bool) → cond b (test_of gs s c).tested 0 ≤ length gs
    by true = test_most s c gs
    by false = omega arith

tested_marked : (gs : List Grant) (f : Marks) (s : Side) (c : ℕ) → f s c ≡ true → tested_for gs f s c ≡ (test_of gs s c).tested
tested_marked gs f s c m = ap (λ (b : Bool). cond b (test_of gs s c).tested 0) m

-- ---- the grants one after another

module _ (ledger : List ℕ) (bits : ℕ) (f : Marks) (g : ℕ) where
  -- none is tested before the first
  pub count_none : 0 ≡ most_tested (chosen_in ledger 0 bits) f g
  unfolding chosen_in
  count_none = omega (arith, most_least [] f g 0 (λ s c. tested_most [] f s c))

  module _ (k : ℕ) (x : Rows) (so_far : RowsAt (keep_first ledger bits f g k) g x) where
    -- a coalition is left: the next grant whose bit is set is tested
    pub count-more : (tested : ℕ) → member k bits ≡ true → empty_rows x ≡ false → tested ≡ most_tested (chosen_in ledger k bits) f g → tested + 1 ≡ most_tested (chosen_in ledger (k + 1) bits) f g
    count-more tested set some e =
        ap (λ (t : ℕ). t + 1) (e ∙ at_left (chosen_in ledger k bits) (length (chosen_in ledger k bits)) (test_all s c (chosen_in ledger k bits) sound) (omega arith))
        ∙ sym (at_left (chosen_in ledger (k + 1) bits) (length (chosen_in ledger k bits) + 1) (ap (λ (gs : List Grant). (test_of gs s c).tested) longer ∙ test_next s c (chosen_in ledger k bits) (grant_in ledger k) sound)
        (omega (arith, ap (λ (gs : List Grant). length gs) longer, length-append (chosen_in ledger k bits) (grant_in ledger k ∷ []))))
      where
        one : MarkedIn (keep_first ledger bits f g k) g
        one = rows_some g (keep_first ledger bits f g k) x so_far some

        s : Side
        s = one.side

        c : ℕ
        c = one.coalition

        sound : (test_of (chosen_in ledger k bits) s c).is_sound ≡ true
        sound = test_says ledger bits s c k ∙ and_right (f s c) (sound_in ledger k bits s c) one.marked

        longer : chosen_in ledger (k + 1) bits ≡ chosen_in ledger k bits ++ grant_in ledger k ∷ []
        longer = chosen_next ledger bits k ∙ ap (λ (b : Bool). chosen_in ledger k bits ++ cond b (grant_in ledger k ∷ []) []) set

        at_left : (gs : List Grant) (t : ℕ) → (test_of gs s c).tested ≡ t → length gs ≤ t → most_tested gs f g ≡ t
        at_left gs t q h =
            most_at gs f g s c t one.low one.high (tested_marked gs f s c (and_left (f s c) (sound_in ledger k bits s c) one.marked) ∙ q)
            (λ r d. omega (arith, tested_most gs f r d))

    -- none is left: no further grant is tested
    pub count-ended : (m : ℕ) → empty_rows x ≡ true → k ≤ m → most_tested (chosen_in ledger k bits) f g ≡ most_tested (chosen_in ledger m bits) f g
    count-ended m none h = most_cong (chosen_in ledger k bits) (chosen_in ledger m bits) f g (λ s c low high.
        by s c (f s c) (rows_empty g (keep_first ledger bits f g k) x so_far none s c low high))
      where
        by : (s : Side) (c : ℕ) (b : Bool) → (b && sound_in ledger k bits s c) ≡ false → cond b (test_of (chosen_in ledger k bits) s c).tested 0 ≡ cond b (test_of (chosen_in ledger m bits) s c).tested 0
        by s c true e = ap (λ (t : Tested). t.tested) (sym (broken_stays ledger bits s c k m e h))
        by s c false e = refl

  -- a grant whose bit is not set is not tested
  pub count_skip : (k : ℕ) → member k bits ≡ false → most_tested (chosen_in ledger k bits) f g ≡ most_tested (chosen_in ledger (k + 1) bits) f g
  count_skip k off =
      ap (λ (gs : List Grant). most_tested gs f g)
      (sym (chosen_next ledger bits k ∙ ap (λ (b : Bool). chosen_in ledger k bits ++ cond b (grant_in ledger k ∷ []) []) off ∙ append-nil (chosen_in ledger k bits)))

-- ---- as the code goes

module _ (ledger : List ℕ) (bits : ℕ) (f : Marks) (g : ℕ) where
  pub tested_none : (of : Rows) → RowsAt f g of → TestedTo ledger 0 bits f g (record { tested = 0; rows = of })
  tested_none of h = record { rows = keep_none ledger bits f g of h; count = count_none ledger bits f g }

  module _ (k tested : ℕ) (x : Rows) (to : TestedTo ledger k bits f g (record { tested = tested; rows = x })) where
    -- none is left
    pub tested_ended : (grants : ℕ) → k ≤ grants → empty_rows x ≡ true → TestedTo ledger grants bits f g (record { tested = tested; rows = x })
    tested_ended grants most none = record {
      rows = keep_empty ledger bits f g k grants x most to.rows none;
      count = to.count ∙ count-ended ledger bits f g k x to.rows grants none most;
    }

    -- one is left, and the bit of grant k is set
    pub tested_more : (gone y : Rows) → empty_rows x ≡ false → member k bits ≡ true
        → RowsAt (λ s c. keep_first ledger bits f g k s c && breaks (marks_of (grant_in ledger k)) s c) g gone → y ≡ each_row lacks_word x gone
        → TestedTo ledger (k + 1) bits f g (record { tested = tested + 1; rows = y })
    tested_more gone y some set b e = record {
      rows = keep_more ledger bits f g k y set (kept_rows (grant_in ledger k) (keep_first ledger bits f g k) g x gone y to.rows b e);
      count = count-more ledger bits f g k x to.rows tested set some to.count;
    }

    -- or not
    pub tested_skip : member k bits ≡ false → TestedTo ledger (k + 1) bits f g (record { tested = tested; rows = x })
    tested_skip off = record { rows = keep_skip ledger bits f g k x off to.rows; count = to.count ∙ count_skip ledger bits f g k off }

-- ---- at most all grants

chosen_few : (ledger : List ℕ) (bits k : ℕ) → length (chosen_in ledger k bits) ≤ k
unfolding chosen_in
chosen_few ledger bits zero = omega arith
chosen_few ledger bits (suc k) =
    omega (arith, chosen_few ledger bits k, length-append (chosen_in ledger k bits) (cond (member k bits) (grant_in ledger k ∷ []) []), by (member k bits))
  where
    by : (b : Bool) → length (cond b (grant_in ledger k ∷ []) []) ≤ 1
    by true = omega arith
    by false = omega arith

pub tested_few : (ledger : List ℕ) (grants bits : ℕ) (s : Side) (c : ℕ) → (test_in ledger grants bits s c).tested ≤ grants
unfolding test_in
tested_few ledger grants bits s c = omega (arith, test_most s c (chosen_in ledger grants bits), chosen_few ledger bits grants)

-- ---- one coalition alone

only_self : (s : Side) (c : ℕ) → only s c s c ≡ true
only_self confidentiality c = eq-eqb c c refl
only_self integrity c = eq-eqb c c refl

pub only_rows : (s : Side) (c : ℕ) (x : Row) → RowAt (λ d. eqb d c) (c / 256) x → RowsAt (only s c) (c / 256) (sided s x (same_row 0))
only_rows confidentiality c x r = rows_of _ _ _ _ r (row_none _)
only_rows integrity c x r = rows_of _ _ _ _ (row_none _) r

only_is : (s : Side) (c : ℕ) (r : Side) (d : ℕ) → only s c r d ≡ true → (r ≡ s) × (d ≡ c)
only_is confidentiality c confidentiality d e = (refl, eqb-true d c e)
only_is confidentiality c integrity d e = absurd (false≢true e)
only_is integrity c confidentiality d e = absurd (false≢true e)
only_is integrity c integrity d e = (refl, eqb-true d c e)

module _ (s : Side) (c : ℕ) where
  low_in : 256 * (c / 256) ≤ c
  low_in = omega arith

  high_in : c < 256 * (c / 256) + 256
  high_in = omega arith

  -- the number is its own
  only-count : (gs : List Grant) → most_tested gs (only s c) (c / 256) ≡ (test_of gs s c).tested
  only-count gs = most_at gs (only s c) (c / 256) s c (test_of gs s c).tested low_in high_in (tested_marked gs (only s c) s c (only_self s c)) (λ r d. by r d (only s c r d) refl)
    where
      by : (r : Side) (d : ℕ) (b : Bool) → only s c r d ≡ b → cond b (test_of gs r d).tested 0 ≤ (test_of gs s c).tested
      by r d true e = let same = only_is s c r d e in rw (same.0, same.1) (omega arith)
      by r d false e = omega arith

  module _ (ledger : List ℕ) (grants bits : ℕ) (kept : Kept) (to : TestedTo ledger grants bits (only s c) (c / 256) kept) where
    tested_is : (b : Bool) → (test_in ledger grants bits s c).is_sound ≡ b → record { is_sound = b; tested = kept.tested } ≡ test_in ledger grants bits s c
    unfolding test_in
    tested_is b e = ap₂ (λ (b : Bool) (n : ℕ). record { is_sound = b; tested = n }) (sym e) (to.count ∙ only-count (chosen_in ledger grants bits))

    -- none is left: it is broken
    pub only_broken : empty_rows kept.rows ≡ true → record { is_sound = false; tested = kept.tested } ≡ test_in ledger grants bits s c
    unfolding test_in
    only_broken none = tested_is false (test_says ledger bits s c grants ∙ sym (ap (λ (b : Bool). b && sound_in ledger grants bits s c) (only_self s c))
        ∙ rows_empty (c / 256) _ kept.rows to.rows none s c low_in high_in)

    -- one is left: it is sound
    pub only-sound : empty_rows kept.rows ≡ false → record { is_sound = true; tested = kept.tested } ≡ test_in ledger grants bits s c
    unfolding test_in
    only-sound some =
        let m = rows_some (c / 256) (λ r d. only s c r d && sound_in ledger grants bits r d) kept.rows to.rows some in
        let same = only_is s c m.side m.coalition (and_left (only s c m.side m.coalition) (sound_in ledger grants bits m.side m.coalition) m.marked) in
        tested_is true
        (test_says ledger bits s c grants
        ∙ sym (ap₂ (λ (r : Side) (d : ℕ). sound_in ledger grants bits r d) same.0 same.1)
        ∙ and_right (only s c m.side m.coalition) (sound_in ledger grants bits m.side m.coalition) m.marked)

    pub only_tested : record { is_sound = not (empty_rows kept.rows); tested = kept.tested } ≡ test_in ledger grants bits s c
    only_tested = by (empty_rows kept.rows) refl
      where
        by : (b : Bool) → empty_rows kept.rows ≡ b → record { is_sound = not b; tested = kept.tested } ≡ test_in ledger grants bits s c
        by true e = only_broken e
        by false e = only-sound e

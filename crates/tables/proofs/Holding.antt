-- The first rows of a list, held on a side: by one row more, and where a code joins, or takes one side of, what was held. Assumes nothing.
use mathlib.Core.Path.{◌≡◌, refl, sym, ap, ◌∙◌, subst}
use mathlib.Core.Bool.{Bool, true, false, not, ◌&&◌, ◌||◌, or-false}
use mathlib.Core.List.{List}
use Prim.Native.Nat.{ℕ, ◌+◌, ◌≤◌, ◌<◌}
use native.Mathlib.Decide.{ℕ_discrete}
use native.Mathlib.Omega.{arith}
use borrow.Author.Tests.{eqb-true}
use lib.Dec.{eqb}
use lib.ListN.{length, set, length-set}
use lib.Seq.{get_or-set_same, get_or-set_other}
use Rattle.model.specs.Sides.{Side, confidentiality, integrity}
use Rattle.model.specs.Terms.{Term, project, top, bottom, name, held}
use Rattle.model.specs.Coalitions.{member}
use Rattle.model.proofs.Truth.{clash, or_left, or_right, and_left, and_right}
use Rattle.terms.specs.declared.Joiner.{Joiner}
use Rattle.terms.specs.declared.Joiner.TheVariants.{Both, Either}
use Rattle.words.specs.declared.Row.{Row}
use Rattle.words.specs.declared.Rows.{Rows}
use Rattle.words.specs.FourWords.{row_on, RowAt, RowsAt, same_row}
use Rattle.words.proofs.Lists.{words_equal}
use Rattle.words.proofs.FourWords.{row_cong, row_none, row_all}
use Rattle.tables.specs.Filling.{nth_row, EachRow, joined_mark, Serves, Holding, Joining, two_of}

-- ---- which sides rows serve

pub serves_left : (a b : Bool) (s t : Side) → Serves (a || b) s t → Serves a s t
serves_left a b s t h e = h (or_left b e)

pub serves_right : (a b : Bool) (s t : Side) → Serves (a || b) s t → Serves b s t
serves_right a b s t h e = h (or_right a e)

pub unsided : (s t : Side) → Serves false s t
unsided s t e = absurd (clash e refl)

-- ---- row by row

module _ (term : Term) (s : Side) (before : List Row) where
  pub holding_none : (a : Bool) → Holding term s a 0 before before
  holding_none a = record { row = λ t e g l m. absurd (omega arith); same = refl }

  -- one row more, of both sides where they are not told apart
  pub holding_more : (a b : Bool) (k : ℕ) (rows : Rows) (y : Row) (now : List Row) → Holding term s a k before now → RowsAt (held term) k rows → y ≡ row_on rows s → (b ≡ false → rows.see ≡ rows.change)
      → Holding term s (a || b) (k + 1) before (set now k y)
  holding_more a b k rows y now d r e alike = record {
    row = λ t serves g l m. elim (ℕ_discrete g k) [
      | yes q ↦ rw (q, get_or-set_same now k y (same_row 0) (omega (arith, d.same)), e) (subst (RowAt (held term t) k) (by b refl t (serves_right a b s t serves)) (r.row t))
      | no n ↦ rw (get_or-set_other now k g y (same_row 0) n) (d.row t (serves_left a b s t serves) g (omega arith) (omega arith))
    ];
    same = length-set now k y ∙ d.same;
  }
    where
      by : (c : Bool) → b ≡ c → (t : Side) → Serves b s t → row_on rows t ≡ row_on rows s
      by true q t serves = ap (row_on rows) (serves q)
      by false q t serves = one s t (alike q)
        where
          one : (s t : Side) → rows.see ≡ rows.change → row_on rows t ≡ row_on rows s
          one confidentiality confidentiality e = refl
          one confidentiality integrity e = sym e
          one integrity confidentiality e = e
          one integrity integrity e = refl

-- two rows whose words are the same
pub same_words : (x y : Row) (r : Bool) → r ≡ not (eqb x.a y.a && (eqb x.b y.b && (eqb x.c y.c && eqb x.d y.d))) → r ≡ false → x ≡ y
same_words x y r e f =
    let all = not-false _ (sym e ∙ f) in
    let rest = and_right (eqb x.a y.a) _ all in
    let last = and_right (eqb x.b y.b) _ rest in
    words_equal _ _ _ _ _ _ _ _ (eqb-true _ _ (and_left (eqb x.a y.a) _ all)) (eqb-true _ _ (and_left (eqb x.b y.b) _ rest))
    (eqb-true _ _ (and_left (eqb x.c y.c) _ last)) (eqb-true _ _ (and_right (eqb x.c y.c) _ last))
  where
    not-false : (b : Bool) → not b ≡ false → b ≡ true
    not-false true e = refl
    not-false false e = absurd (clash refl e)

-- ---- each row at once

module _ (term : Term) (s : Side) (count : ℕ) (before after : List Row) where
  pub holding_each : (of : ℕ → Row → Row → Type 0) → ((t : Side) (g : ℕ) (x y : Row) → of g x y → RowAt (held term t) g y) → EachRow of count before after → Holding term s false count before after
  holding_each of law d = record { row = λ t e g l m. law t g _ _ (d.row g l m); same = d.same }

pub name_rows : (i : ℕ) (t : Side) (g : ℕ) (y : Row) → RowAt (member i) g y → RowAt (held (name i) t) g y
unfolding held
name_rows i t g y r = r

pub top_rows : (t : Side) (g : ℕ) (y : Row) → y ≡ same_row 0 → RowAt (held top t) g y
unfolding held
top_rows t g y e = rw e (row_none g)

pub bottom_rows : (t : Side) (g : ℕ) (y : Row) → y ≡ same_row 0xFFFF_FFFF_FFFF_FFFF → RowAt (held bottom t) g y
unfolding held
bottom_rows t g y e = rw e (row_all g)

-- ---- joined to what was held

both_held : (j : Joiner) (p q : Term) (t : Side) (c : ℕ) → joined_mark j (held p t c) (held q t c) ≡ held (two_of j p q) t c
unfolding held
both_held Both p q t c = refl
both_held Either p q t c = refl

turned : (j : Joiner) (a b : Bool) → joined_mark j a b ≡ joined_mark j b a
turned Both true true = refl
turned Both true false = refl
turned Both false true = refl
turned Both false false = refl
turned Either true true = refl
turned Either true false = refl
turned Either false true = refl
turned Either false false = refl

module _ (j : Joiner) (p q : Term) (s : Side) (count : ℕ) (before now after : List Row) where
  pub holding_joined : (a b : Bool) → Holding p s a count before now → Joining j q s b count now after → Holding (two_of j p q) s (a || b) count before after
  holding_joined a b d e = record {
    row = λ t serves g l m. row_cong g _ _ _ (λ c _ _. both_held j p q t c)
        (e.row t (serves_right a b s t serves) _ g l (omega (arith, d.same)) (d.row t (serves_left a b s t serves) g l m));
    same = e.same ∙ d.same;
  }

  -- a term that is the same on both sides
  pub holding_last : (a : Bool) → Holding p s a count before now → Joining j q s false count now after → Holding (two_of j p q) s a count before after
  holding_last a d e = rw or-false at (holding_joined a false d e)

-- the same with the two terms exchanged
pub holding_turned : (j : Joiner) (p q : Term) (s : Side) (a : Bool) (count : ℕ) (before after : List Row) → Holding (two_of j q p) s a count before after → Holding (two_of j p q) s a count before after
holding_turned j p q s a count before after d = record {
  row = λ t serves g l m. row_cong g _ _ _ (λ c _ _. sym (both_held j q p t c) ∙ turned j (held q t c) (held p t c) ∙ both_held j p q t c) (d.row t serves g l m);
  same = d.same;
}

-- ---- one side of a term

own_side : (term : Term) (s : Side) (g : ℕ) (y : Row) → RowAt (held term s) g y → RowAt (held (project s term) s) g y
unfolding held
own_side term confidentiality g y r = r
own_side term integrity g y r = r

other_side : (term : Term) (of s : Side) (g : ℕ) (y : Row) → (of ≡ s → ⊥) → y ≡ same_row 0xFFFF_FFFF_FFFF_FFFF → RowAt (held (project of term) s) g y
unfolding held
other_side term confidentiality confidentiality g y n e = absurd (n refl)
other_side term confidentiality integrity g y n e = rw e (row_all g)
other_side term integrity confidentiality g y n e = rw e (row_all g)
other_side term integrity integrity g y n e = absurd (n refl)

module _ (term : Term) (s : Side) (count : ℕ) (before after : List Row) where
  -- held on this side alone
  held_here : (whole : Term) → ((g : ℕ) → g < count → count ≤ length before → RowAt (held whole s) g (nth_row after g)) → length after ≡ length before → Holding whole s true count before after
  held_here whole r e = record { row = λ t serves g l m. subst (λ (u : Side). RowAt (held whole u) g (nth_row after g)) (sym (serves refl)) (r g l m); same = e }

  pub holding_side : (a : Bool) → Holding term s a count before after → Holding (project s term) s true count before after
  holding_side a d = held_here (project s term) (λ g l m. own_side term s g _ (d.row s (λ _. refl) g l m)) d.same

  pub holding_other : (of : Side) → (of ≡ s → ⊥) → EachRow (λ g x y. y ≡ same_row 0xFFFF_FFFF_FFFF_FFFF) count before after → Holding (project of term) s true count before after
  holding_other of n d = held_here (project of term) (λ g l m. other_side term of s g _ n (d.row g l m)) d.same

-- ---- on both sides

module _ (term : Term) (count : ℕ) (before after : List Row) (room : count ≤ length before) where
  -- a side's own rows
  pub own_rows : (s : Side) (a : Bool) → Holding term s a count before after → (g : ℕ) → g < count → RowAt (held term s) g (nth_row after g)
  own_rows s a d g l = d.row s (λ _. refl) g l room

  -- and those of either, where they are the same
  pub same_rows : (s : Side) (a : Bool) → a ≡ false → Holding term s a count before after → (t : Side) (g : ℕ) → g < count → RowAt (held term t) g (nth_row after g)
  same_rows s a e d t g l = d.row t (rw e (unsided s t)) g l room

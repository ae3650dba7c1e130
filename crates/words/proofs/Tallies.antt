-- The table of a quorum (document 02, K4): its rows j have the coalitions that hold at least j of the parts so far. Each law over the side. Assumes nothing.
use mathlib.Core.Path.{◌≡◌, refl, sym, ap, ap₂, ◌∙◌}
use mathlib.Core.Bool.{Bool, true, false, cond, ◌&&◌, ◌||◌, false≢true}
use mathlib.Core.List.{List}
use Prim.Native.Nat.{ℕ, zero, suc, ◌+◌, ◌-◌, ◌≤◌, ◌<◌}
use native.Mathlib.Decide.{ℕ_discrete}
use native.Mathlib.Omega.{arith}
use borrow.Author.Tests.{leb-true, le-leb, lt-leb}
use lib.Bits.{bit_and, bit_or}
use lib.Dec.{leb}
use lib.ListN.{length, drop, set, replicate, length-set}
use lib.Seq.{get_or-set_same, get_or-set_other}
use Rattle.model.specs.Sides.{Side}
use Rattle.model.specs.Terms.{Term, quorum, Terms, nil, cons, held, held_count}
use Rattle.model.proofs.Truth.{bool_ext, or_elim, or_left, or_right, and_intro, and_left, and_right}
use Rattle.model.proofs.Held.{quorum_held, count_none, count_part}
use Rattle.words.specs.declared.Rows.{Rows}
use Rattle.words.specs.AnyBytes.{TakenAll, taken_all, taken, term_in}
use Rattle.words.specs.FourWords.{row_on, RowAt, each_row, same_rows, rows_in, Weighed}
use Rattle.words.specs.Evaluation.{Evaluated}
use Rattle.words.proofs.AnyBytes.{all_at}
use Rattle.words.proofs.FourWords.{each_on, same_on, row_none, row_all, row_both, row_either, row_cong}

-- ---- the steps of `weigh`, downwards

-- the rows above j are done, the others as before
pub record WeighedFrom (j k : ℕ) (x : Rows) (before after : List Rows) : Type 0 where
  pub same : length after ≡ length before
  pub low : (i : ℕ) → i ≤ j → rows_in after i ≡ rows_in before i
  pub high : (i : ℕ) → j ≤ i → i < k → k < length before → rows_in after (suc i) ≡ each_row bit_or (rows_in before (suc i)) (each_row bit_and (rows_in before i) x)

pub weighed_next : (j k : ℕ) (x new : Rows) (before after : List Rows) → 0 < j → j ≤ k → WeighedFrom j k x before after
    → new ≡ each_row bit_or (rows_in after j) (each_row bit_and (rows_in after (j - 1)) x) → WeighedFrom (j - 1) k x before (set after j new)
weighed_next j k x new before after p q d is = record {
  same = length-set after j new ∙ d.same;
  low = λ i l. get_or-set_other after j i new _ (omega arith) ∙ d.low i (omega arith);
  high = λ i l m r. elim (ℕ_discrete (suc i) j) [
    | yes e ↦ (
        let f : j - 1 ≡ i = omega arith in
        let here : rows_in after j ≡ rows_in before (suc i) = d.low j (omega arith) ∙ ap (rows_in before) (sym e) in
        let under : rows_in after (j - 1) ≡ rows_in before i = ap (rows_in after) f ∙ d.low i (omega arith) in
        ap (rows_in (set after j new)) e ∙ get_or-set_same after j new _ (omega (arith, d.same)) ∙ is ∙ ap₂ (each_row bit_or) here (ap (λ (y : Rows). each_row bit_and y x) under))
    | no n ↦ get_or-set_other after j (suc i) new _ n ∙ d.high i (omega arith) m r
  ];
}

pub weighed_all : (k : ℕ) (x : Rows) (before after : List Rows) → WeighedFrom 0 k x before after → Weighed k x before after
weighed_all k x before after d = record { same = d.same; none = d.low 0 (omega arith); each = λ j l r. d.high j (omega arith) l r }

-- ---- what a table means

-- On a side, up to row k, row j of the table has the coalitions of row g at which d is at least j.
abbrev pub Tallied : ℕ → ℕ → Side → (ℕ → ℕ) → List Rows → Type 0
Tallied k g s d table = (j : ℕ) → j ≤ k → RowAt (λ c. leb j (d c)) g (row_on (rows_in table j) s)

none_at : (m j : ℕ) → rows_in (replicate m (same_rows 0)) j ≡ same_rows 0
none_at zero j = refl
none_at (suc m) zero = refl
none_at (suc m) (suc j) = none_at m j

-- before the first part: all at row 0, and none at the others
abbrev pub first_table : List Rows
first_table = set (replicate 13 (same_rows 0)) 0 (same_rows 0xFFFF_FFFF_FFFF_FFFF)

pub tallied_start : (k g : ℕ) (s : Side) → Tallied k g s (λ c. 0) first_table
tallied_start k g s zero l = rw (same_on 0xFFFF_FFFF_FFFF_FFFF s) (row_cong g (λ c. true) (λ c. leb 0 0) _ (λ c a b. refl) (row_all g))
tallied_start k g s (suc j) l =
    rw (get_or-set_other (replicate 13 (same_rows 0)) 0 (suc j) (same_rows 0xFFFF_FFFF_FFFF_FFFF) (same_rows 0) (omega arith), none_at 13 (suc j), same_on 0 s)
    (row_cong g (λ c. false) (λ c. leb (suc j) 0) _ (λ c a b. sym (lt-leb (suc j) 0 (omega arith))) (row_none g))

-- at least j + 1 with a part more: already, or at least j and the part
one_more : (j d : ℕ) (b : Bool) → (leb (suc j) d || (leb j d && b)) ≡ leb (suc j) (cond b (suc d) d)
one_more j d true = bool_ext (leb (suc j) d || (leb j d && true)) (leb (suc j) (suc d))
    (λ e. le-leb (suc j) (suc d) (or_elim (leb (suc j) d) (leb j d && true)
    (λ f. omega (arith, leb-true (suc j) d f)) (λ f. omega (arith, leb-true j d (and_left (leb j d) true f))) e))
    (λ e. let l : j ≤ d = omega (arith, leb-true (suc j) (suc d) e) in or_right (leb (suc j) d) (and_intro (le-leb j d l) refl))
one_more j d false = bool_ext (leb (suc j) d || (leb j d && false)) (leb (suc j) d)
    (or_elim (leb (suc j) d) (leb j d && false) (λ f. f) (λ f. absurd (false≢true (and_right (leb j d) false f))))
    (λ e. or_left (leb j d && false) e)

-- after one part more
tallied_part : (k g : ℕ) (s : Side) (x : Rows) (d : ℕ → ℕ) (f : ℕ → Bool) (before after : List Rows) → k < length before → Tallied k g s d before → RowAt f g (row_on x s) → Weighed k x before after
    → Tallied k g s (λ c. cond (f c) (suc (d c)) (d c)) after
tallied_part k g s x d f before after room t e h zero l =
    rw h.none (row_cong g (λ c. leb 0 (d c)) _ _
    (λ c a b. le-leb 0 (d c) (omega arith) ∙ sym (le-leb 0 (cond (f c) (suc (d c)) (d c)) (omega arith))) (t 0 l))
tallied_part k g s x d f before after room t e h (suc j) l =
    rw (h.each j l room, each_on bit_or (rows_in before (suc j)) (each_row bit_and (rows_in before j) x) s, each_on bit_and (rows_in before j) x s)
    (row_cong g (λ c. leb (suc j) (d c) || (leb j (d c) && f c)) _ _ (λ c a b. one_more j (d c) (f c))
    (row_either g (λ c. leb (suc j) (d c)) (λ c. leb j (d c) && f c) _ _ (t (suc j) l) (row_both g (λ c. leb j (d c)) f _ _ (t j (omega arith)) e)))

-- a part held is counted among those so far
moved : (b : Bool) (d u : ℕ) → d + cond b (suc u) u ≡ cond b (suc d) d + u
moved true d u = omega arith
moved false d u = refl

-- On a side, of the quorum of k of ts: the table counts the parts before those that are left.
pub record Tally (ts left : Terms) (s : Side) (k g : ℕ) (table : List Rows) : Type 0 where
  pub so_far : ℕ → ℕ
  pub total : (c : ℕ) → held_count ts s c ≡ so_far c + held_count left s c
  pub tallied : Tallied k g s so_far table

module _ (ts : Terms) (s : Side) (k g : ℕ) where
  pub tally_start : Tally ts ts s k g first_table
  tally_start = record {
    so_far = λ c. 0;
    total = λ c. omega arith;
    tallied = tallied_start k g s;
  }

  pub tally_part : (t : Term) (us : Terms) (x : Rows) (before after : List Rows) → k < length before → Tally ts (cons t us) s k g before → RowAt (held t s) g (row_on x s) → Weighed k x before after → Tally ts us s k g after
  tally_part t us x before after room d e h = record {
    so_far = λ c. cond (held t s c) (suc (d.so_far c)) (d.so_far c);
    total = λ c. d.total c ∙ ap (λ (u : ℕ). d.so_far c + u) (count_part t us s c) ∙ moved (held t s c) (d.so_far c) (held_count us s c);
    tallied = tallied_part k g s x d.so_far (held t s) before after room d.tallied e h;
  }

  -- with none left, row k is the quorum's
  pub tally_done : (table : List Rows) → Tally ts nil s k g table → RowAt (held (quorum k ts) s) g (row_on (rows_in table k) s)
  tally_done table d = row_cong g (λ c. leb k (d.so_far c)) (held (quorum k ts) s) _
      (λ c a b. let e : d.so_far c ≡ held_count ts s c = omega (arith, d.total c, count_none s c) in ap (leb k) e ∙ sym (quorum_held k ts s c))
      (d.tallied k (omega arith))

-- ---- the parts of a quorum at places of the bytes

-- Of m parts from `at` on, as many as `left` are still to be weighed, from `next` on.
pub record Weighing (bytes : List ℕ) (at m g k left next : ℕ) (table : List Rows) : Type 0 where
  pub forward : at ≤ next
  pub place : next + (taken_all taken left (drop next bytes)).size ≡ at + (taken_all taken m (drop at bytes)).size
  pub tally : (s : Side) → Tally (taken_all taken m (drop at bytes)).terms (taken_all taken left (drop next bytes)).terms s k g table
  pub size : length table ≡ 13

module _ (bytes : List ℕ) (at m g k : ℕ) where
  pub weighing_start : (table : List Rows) → table ≡ first_table → Weighing bytes at m g k m at table
  weighing_start table e = record {
    forward = omega arith;
    place = refl;
    tally = λ s. rw e (tally_start _ s k g);
    size = rw e;
  }

  -- the part at `next`, and the others from where it ends
  module _ (next end : ℕ) (x : Rows) (e : Evaluated bytes next g x end) (before after : List Rows) (few : k ≤ 12) (h : Weighed k x before after) where
    weighing_part : (left : ℕ) → Weighing bytes at m g k (suc left) next before → Weighing bytes at m g k left end after
    weighing_part left d =
        let r = all_at bytes next left end e.past in record {
          forward = omega (arith, d.forward, e.past);
          place = omega (arith, d.place, e.past, ap (λ (z : TakenAll). z.size) r);
          tally = λ s. tally_part _ s k g (term_in (drop next bytes)) _ x before after (omega (arith, d.size)) (rw r at (d.tally s)) (e.held_there.row s) h;
          size = h.same ∙ d.size;
        }

    pub weighing_next : (left : ℕ) → 0 < left → Weighing bytes at m g k left next before → Weighing bytes at m g k (left - 1) end after
    weighing_next zero l d = absurd (omega arith)
    weighing_next (suc left) l d = let one_less : suc left - 1 ≡ left = omega arith in rw one_less (weighing_part left d)

-- What `hold` does at each code gives the rows of the term that the bytes stand for. Assumes nothing.
use mathlib.Core.Path.{◌≡◌, refl, sym, ap, ◌∙◌, subst}
use mathlib.Core.Bool.{Bool, true, false, cond, not, ◌&&◌, ◌||◌}
use mathlib.Core.Logic.{⊎_elim}
use mathlib.Core.List.{List}
use Prim.Native.Nat.{ℕ, ◌+◌, ◌≤◌, ◌<◌}
use native.Mathlib.Omega.{arith}
use borrow.Author.Tests.{le-ltb, ltb-true, ne_eqb, eqb-true}
use lib.Bits.{bit_and, bit_or}
use lib.Dec.{eqb, ltb}
use lib.ListN.{length, drop, get_or, get_or-eq_default}
use lib.Seq.{drop-drop}
use Rattle.model.specs.Sides.{Side, confidentiality, integrity}
use Rattle.model.specs.Coalitions.{member}
use Rattle.model.specs.Terms.{Term, name, top, bottom, conj, disj, project, quorate, project_code, Code, whole, one, two, none, code_of, held}
use Rattle.model.proofs.Truth.{clash, and_left, and_right, lt_or_ge}
use Rattle.model.proofs.Reading.{code_name, code_project}
use Rattle.words.specs.declared.Row.{Row}
use Rattle.words.specs.declared.Rows.{Rows}
use Rattle.words.specs.AnyBytes.{Taken, TakenAll, no_code, take_parts, taken, term_in}
use Rattle.words.specs.FourWords.{row_on, RowAt, RowsAt, each_word, each_row, same_row, same_rows, sided, rows_in}
use Rattle.std.specs.Prelude.{Some, None}
use Rattle.terms.specs.declared.Joiner.{Joiner}
use Rattle.terms.specs.declared.Joiner.TheVariants.{Both, Either}
use Rattle.terms.specs.Joiners.{joiner_at}
use Rattle.words.specs.Evaluation.{joined, Evaluated, left_over, quorum_at}
use Rattle.words.proofs.AnyBytes.{taken_end, taken_at, quorum_at_lem, no_quorum_at, all_none}
use Rattle.words.proofs.Tallies.{Weighing, tally_done}
use Rattle.words.proofs.FourWords.{row_none, row_all, row_both, row_either, rows_each, rows_same, rows_of}

neither : (a b : Bool) → (a || b) ≡ false → (a ≡ false) × (b ≡ false)
neither false false e = (refl, refl)
neither false true e = absurd (clash refl e)
neither true b e = absurd (clash refl e)

not-true : (b : Bool) → not b ≡ true → b ≡ false
not-true false e = refl
not-true true e = absurd (clash e refl)

-- what a byte that is left over is not
record NoneOf (c : ℕ) : Type 0 where
  no_name : ltb c 12 ≡ false
  no_both : eqb c 0x30 ≡ false
  no_either : eqb c 0x31 ≡ false
  no_bottom : eqb c 0x21 ≡ false
  no_see : eqb c 0x40 ≡ false
  no_change : eqb c 0x41 ≡ false

left_over_is_none : (c : ℕ) → left_over c ≡ true → NoneOf c
left_over_is_none c e =
    let sides = eqb c 0x40 || eqb c 0x41 in
    let joins = eqb c 0x30 || eqb c 0x31 in
    let name = neither (ltb c 12) (joins || (eqb c 0x21 || sides)) (not-true _ e) in
    let join = neither joins (eqb c 0x21 || sides) name.1 in
    let bottom = neither (eqb c 0x21) sides join.1 in
    let two = neither (eqb c 0x30) (eqb c 0x31) join.0 in
    let side = neither (eqb c 0x40) (eqb c 0x41) bottom.1 in
    record { no_name = name.0; no_both = two.0; no_either = two.1; no_bottom = bottom.0; no_see = side.0; no_change = side.1 }

no_code_lem : (c : ℕ) → left_over c ≡ true → eqb c 0x20 ≡ false → eqb c 0x32 ≡ false → code_of 12 c ≡ none
unfolding code_of
no_code_lem c l t m =
    let r = left_over_is_none c l in
    rw (r.no_name, t, r.no_bottom, r.no_both, r.no_either, m, r.no_see, r.no_change)

-- the code of a joiner, and a byte that is none
pub joiner_both : (c : ℕ) → joiner_at c ≡ Some Both → c ≡ 0x30
joiner_both c e = by (eqb c 0x30) (eqb c 0x31) refl refl e
  where
    by : (a b : Bool) → eqb c 0x30 ≡ a → eqb c 0x31 ≡ b → cond a (Some Both) (cond b (Some Either) None) ≡ Some Both → c ≡ 0x30
    by true b p q e = eqb-true c 0x30 p
    by false true p q e = cc
    by false false p q e = cc

pub joiner_either : (c : ℕ) → joiner_at c ≡ Some Either → c ≡ 0x31
joiner_either c e = by (eqb c 0x30) (eqb c 0x31) refl refl e
  where
    by : (a b : Bool) → eqb c 0x30 ≡ a → eqb c 0x31 ≡ b → cond a (Some Both) (cond b (Some Either) None) ≡ Some Either → c ≡ 0x31
    by true b p q e = cc
    by false true p q e = eqb-true c 0x31 q
    by false false p q e = cc

joiner_none : (c : ℕ) → joiner_at c ≡ None → (eqb c 0x30 || eqb c 0x31) ≡ false
joiner_none c e = by (eqb c 0x30) (eqb c 0x31) e
  where
    by : (a b : Bool) → cond a (Some Both) (cond b (Some Either) None) ≡ None → (a || b) ≡ false
    by true b e = cc
    by false true e = cc
    by false false e = refl

-- a byte that `hold` takes for no other code is left over, and a place with one is not past the end
pub left_over_lem : (c : ℕ) → 12 ≤ c → joiner_at c ≡ None → (c ≡ 0x21 → ⊥) → (c ≡ 0x40 → ⊥) → (c ≡ 0x41 → ⊥) → left_over c ≡ true
left_over_lem c l j b e f = rw (le-ltb c 12 l, joiner_none c j, ne_eqb c 0x21 b, ne_eqb c 0x40 e, ne_eqb c 0x41 f)

pub left_over_inside : (s : List ℕ) (at : ℕ) → left_over (get_or s at 0) ≡ true → at < length s
left_over_inside s at e = ⊎_elim (λ l. l) (λ g. absurd (clash {b = left_over 0} (rw (get_or-eq_default s 0 {n = at} g) at e) refl)) (lt_or_ge at (length s))

-- the strongest party is held nowhere
top_rows : (g : ℕ) → RowsAt (held top) g (same_rows 0)
unfolding held
top_rows g = rows_same g (held top) 0 (λ s. row_none g)

-- by what the bytes from a place on are taken for
by_taken : (s : List ℕ) (at g : ℕ) (x : Rows) (next : ℕ) (t : Taken) → taken (drop at s) ≡ t → RowsAt (held t.term) g x → next ≡ at + t.size → Evaluated s at g x next
by_taken s at g x next t e rows past = record {
  held_there = subst (λ (t : Taken). RowsAt (held t.term) g x) (sym e) rows;
  past = subst (λ (t : Taken). next ≡ at + t.size) (sym e) past;
}

-- past the end nothing is left to take
pub eval_end : (s : List ℕ) (at g : ℕ) (x : Rows) → length s ≤ at → x ≡ same_rows 0 → Evaluated s at g x at
eval_end s at g x h e =
    rw e (by_taken s at g (same_rows 0) at (record { term = top; size = 0 }) (taken_end s at h) (top_rows g) (omega arith))

module _ (s : List ℕ) (at g : ℕ) (h : at < length s) where
  -- by what the code at the place is, from the parts after it
  eval : (m : Code) (x : Rows) (next : ℕ) → code_of 12 (get_or s at 0) ≡ m → RowsAt (held (take_parts taken m (drop (at + 1) s)).term) g x
      → next ≡ at + (take_parts taken m (drop (at + 1) s)).size → Evaluated s at g x next
  eval m x next e = by_taken s at g x next (take_parts taken m (drop (at + 1) s)) (taken_at s at h m e)

  pub eval_name : (x : Row) → get_or s at 0 < 12 → RowAt (member (get_or s at 0)) g x → Evaluated s at g (record { see = x; change = x }) (at + 1)
  unfolding held
  eval_name x l e = eval (whole (name (get_or s at 0))) (record { see = x; change = x }) (at + 1) (code_name 12 (get_or s at 0) l l) (rows_of g _ x x e e) refl

  pub eval_top : (x : Rows) → x ≡ same_rows 0 → get_or s at 0 ≡ 0x20 → Evaluated s at g x (at + 1)
  unfolding code_of
  eval_top x q e = rw q (eval (whole top) (same_rows 0) (at + 1) (ap (code_of 12) e) (top_rows g) refl)

  pub eval_bottom : (x : Rows) → x ≡ same_rows 0xFFFF_FFFF_FFFF_FFFF → get_or s at 0 ≡ 0x21 → Evaluated s at g x (at + 1)
  unfolding code_of held
  eval_bottom x q e = rw q (eval (whole bottom) (same_rows 0xFFFF_FFFF_FFFF_FFFF) (at + 1) (ap (code_of 12) e) (rows_same g _ 0xFFFF_FFFF_FFFF_FFFF (λ s. row_all g)) refl)

  -- one part after the code
  module _ (x : Rows) (m : ℕ) (p : Evaluated s (at + 1) g x m) where
    pub eval_project : (side : Side) (z : Rows) → z ≡ sided side (row_on x side) (same_row 0xFFFF_FFFF_FFFF_FFFF) → get_or s at 0 ≡ project_code side → Evaluated s at g z m
    unfolding held
    eval_project side z w e = rw w (eval (one (project side)) _ m (ap (code_of 12) e ∙ code_project 12 side) (by side) (omega (arith, p.past)))
      where
        by : (side : Side) → RowsAt (held (project side (term_in (drop (at + 1) s)))) g (sided side (row_on x side) (same_row 0xFFFF_FFFF_FFFF_FFFF))
        by confidentiality = rows_of g _ x.see (same_row 0xFFFF_FFFF_FFFF_FFFF) (p.held_there.row confidentiality) (row_all g)
        by integrity = rows_of g _ (same_row 0xFFFF_FFFF_FFFF_FFFF) x.change (row_all g) (p.held_there.row integrity)

  -- two parts, the second where the first ends, whose rows an operation puts together
  module _ (x : Rows) (m : ℕ) (p : Evaluated s (at + 1) g x m) (y : Rows) (m' : ℕ) (q : Evaluated s m g y m') where
    eval_two : (op : ℕ → ℕ → ℕ) (f : Term → Term → Term)
        → ((t u : Term) (side : Side) (a b : Row) → RowAt (held t side) g a → RowAt (held u side) g b → RowAt (held (f t u) side) g (each_word op a b))
        → code_of 12 (get_or s at 0) ≡ two f → Evaluated s at g (each_row op x y) m'
    eval_two op f law e =
        let first = taken (drop (at + 1) s) in
        let seam : drop m s ≡ drop first.size (drop (at + 1) s) = ap (λ (k : ℕ). drop k s) p.past ∙ sym (drop-drop first.size (at + 1) s) in
        let second = rw seam at q.held_there in
        let past : m' ≡ m + (taken (drop first.size (drop (at + 1) s))).size = rw seam at q.past in
        eval (two f) (each_row op x y) m' e
        (rows_each g op _ x y (λ side. law first.term (term_in (drop first.size (drop (at + 1) s))) side _ _ (p.held_there.row side) (second.row side)))
        (omega (arith, p.past))

    eval_conj : get_or s at 0 ≡ 0x30 → Evaluated s at g (each_row bit_and x y) m'
    unfolding code_of held
    eval_conj e = eval_two bit_and conj (λ t u side a b. row_both g (held t side) (held u side) a b) (ap (code_of 12) e)

    eval_disj : get_or s at 0 ≡ 0x31 → Evaluated s at g (each_row bit_or x y) m'
    unfolding code_of held
    eval_disj e = eval_two bit_or disj (λ t u side a b. row_either g (held t side) (held u side) a b) (ap (code_of 12) e)

    -- both where the code is 30, and either where it is the other that has two parts
    pub eval_join : (j : Joiner) (z : Rows) → joiner_at (get_or s at 0) ≡ Some j → z ≡ joined j x y → Evaluated s at g z m'
    eval_join Both z e w = rw w (eval_conj (joiner_both (get_or s at 0) e))
    eval_join Either z e w = rw w (eval_disj (joiner_either (get_or s at 0) e))

  -- a quorum in range, whose parts from three bytes on are all weighed
  pub eval_quorum : (table : List Rows) (left next : ℕ) → left ≡ 0 → quorum_at s at ≡ true
      → Weighing s (at + 3) (get_or s (at + 2) 0) g (get_or s (at + 1) 0) left next table
      → Evaluated s at g (rows_in table (get_or s (at + 1) 0)) next
  eval_quorum table left next z q w =
      let k = get_or s (at + 1) 0 in
      let m = get_or s (at + 2) 0 in
      let in_range = and_right (eqb (get_or s at 0) 0x32) (ltb (at + 2) (length s) && quorate k m) q in
      let d : Weighing s (at + 3) m g k 0 next table = rw z at w in
      let none = all_none (drop next s) in
      by_taken s at g _ next _
      (quorum_at_lem s at h (eqb-true _ 0x32 (and_left (eqb (get_or s at 0) 0x32) (ltb (at + 2) (length s) && quorate k m) q))
      (ltb-true (at + 2) (length s) (and_left (ltb (at + 2) (length s)) (quorate k m) in_range)) (and_right (ltb (at + 2) (length s)) (quorate k m) in_range))
      record { row = λ s. tally_done _ s k g table (rw none at (d.tally s)) }
      (omega (arith, d.place, ap (λ (x : TakenAll). x.size) none))

  -- what else is left over: the strongest party, a quorum whose k or m is missing or out of range, and what is no code
  pub eval_left_over : (x : Rows) → x ≡ same_rows 0 → left_over (get_or s at 0) ≡ true → quorum_at s at ≡ false → Evaluated s at g x (at + 1)
  eval_left_over x q l n = by (eqb (get_or s at 0) 0x20) (eqb (get_or s at 0) 0x32) refl refl n
    where
      by : (a b : Bool) → eqb (get_or s at 0) 0x20 ≡ a → eqb (get_or s at 0) 0x32 ≡ b → (b && (ltb (at + 2) (length s) && quorate (get_or s (at + 1) 0) (get_or s (at + 2) 0))) ≡ false → Evaluated s at g x (at + 1)
      by true b t m out = eval_top x q (eqb-true _ 0x20 t)
      by false true t m out = rw q (by_taken s at g (same_rows 0) (at + 1) no_code (no_quorum_at s at h (eqb-true _ 0x32 m) out) (top_rows g) refl)
      by false false t m out = rw q (eval none (same_rows 0) (at + 1) (no_code_lem (get_or s at 0) l t m) (top_rows g) refl)

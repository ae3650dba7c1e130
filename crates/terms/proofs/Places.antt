-- How `part_at`, the reading at a place of a slice, goes from code to code; and what the reading at place 0 says of the whole term. Assumes nothing.
use Prim.Native.Nat.{ℕ, zero, suc, ◌+◌, ◌-◌, ◌<◌, ◌≤◌}
use native.Mathlib.Omega.{arith}
use native.Mathlib.Numerals.{add-one}
use mathlib.Core.Path.{◌≡◌, refl, sym, ap, ◌∙◌}
use mathlib.Core.Bool.{true, false}
use mathlib.Core.List.{List, [], ◌∷◌, ◌++◌}
use lib.ListN.{length, drop, get_or, length-append, length-drop, drop_of_length-le}
use lib.Seq.{drop-cons, drop-drop, drop-append_seam}
use Rattle.model.specs.Terms.{Term, quorum, Terms, cons, quorate, codes, Code, whole, one, two, many, none, code_of, Front, found, stopped, onward, read_all, read_quorum, read_parts, read_front, all_read, read_term}
use Rattle.model.specs.Refusals.{WrongLength}
use Rattle.refusals.specs.Results.{done}
use Rattle.terms.specs.Readings.{shape_of, place_of, part_at, parts_at}
use Rattle.terms.specs.declared.Shape.{Shape}
use Rattle.terms.specs.declared.Shape.TheVariants.{Whole, One, Two, Other}
use Rattle.model.specs.Readings.{accepted, refused}
use Rattle.model.proofs.Reading.{Right, code_right, codes_some, front_sound, front_none, front_step, term_within}
use Rattle.model.proofs.Refusals.{refused_one}

-- what the reading says of the places, by the shape of the code
module _ (L : ℕ) (part : List ℕ → Front Term) (cs : List ℕ) where
  parts_whole : (m : Code) → shape_of m ≡ Whole → place_of L (read_parts part m cs) ≡ accepted (L - length cs)
  parts_whole (whole t) e = refl
  parts_whole (one f) e = cc
  parts_whole (two f) e = cc
  parts_whole many e = cc
  parts_whole none e = cc

  parts_none : (n c : ℕ) (m : Code) → Right n c m → (c ≡ 0x32 → ⊥) → shape_of m ≡ Other → place_of L (read_parts part m cs) ≡ refused 2
  parts_none n c (whole t) r h e = cc
  parts_none n c (one f) r h e = cc
  parts_none n c (two f) r h e = cc
  parts_none n c many r h e = absurd (h r)
  parts_none n c none r h e = refl

  one_place : (f : Term → Term) (r : Front Term) → place_of L (onward r (λ a rest. found (f a) rest)) ≡ place_of L r
  one_place f (found a rest) = refl
  one_place f (stopped k) = refl

  parts_one : (m : Code) → shape_of m ≡ One → place_of L (read_parts part m cs) ≡ place_of L (part cs)
  parts_one (whole t) e = cc
  parts_one (one f) e = one_place f (part cs)
  parts_one (two f) e = cc
  parts_one many e = cc
  parts_one none e = cc

  -- what is built of several parts has their place
  all_place : {A : Type 0} (f : Terms → A) (r : Front Terms) → place_of L (onward r (λ ps rest. found (f ps) rest)) ≡ place_of L r
  all_place f (found ps rest) = refl
  all_place f (stopped k) = refl

  parts_first : (m : ℕ) (a : Term) (rest : List ℕ) → part cs ≡ found a rest → place_of L (read_all part (suc m) cs) ≡ place_of L (read_all part m rest)
  unfolding read_all
  parts_first m a rest h = rw h (all_place (cons a) (read_all part m rest))

  parts_first_stop : (m k : ℕ) → part cs ≡ stopped k → place_of L (read_all part (suc m) cs) ≡ refused k
  unfolding read_all
  parts_first_stop m k h = rw h

  two_place : (f : Term → Term → Term) (a : Term) (r : Front Term) → place_of L (onward r (λ b last. found (f a b) last)) ≡ place_of L r
  two_place f a (found b last) = refl
  two_place f a (stopped k) = refl

  parts_two : (m : Code) → shape_of m ≡ Two → (a : Term) (rest : List ℕ) → part cs ≡ found a rest → place_of L (read_parts part m cs) ≡ place_of L (part rest)
  parts_two (whole t) e a rest h = cc
  parts_two (one f) e a rest h = cc
  parts_two (two f) e a rest h = rw h (two_place f a (part rest))
  parts_two many e a rest h = cc
  parts_two none e a rest h = cc

  parts_two_stop : (m : Code) → shape_of m ≡ Two → (k : ℕ) → part cs ≡ stopped k → place_of L (read_parts part m cs) ≡ refused k
  parts_two_stop (whole t) e k h = cc
  parts_two_stop (one f) e k h = cc
  parts_two_stop (two f) e k h = rw h
  parts_two_stop many e k h = cc
  parts_two_stop none e k h = cc

-- which reading a place came from
record Came (L p : ℕ) (r : Front Term) : Type 0 where
  term : Term
  rest : List ℕ
  is : r ≡ found term rest
  place : L - length rest ≡ p

from_next : (L p : ℕ) (r : Front Term) → place_of L r ≡ accepted p → Came L p r
from_next L p (found a l) e = record { term = a; rest = l; is = refl; place = cc }
from_next L p (stopped k) e = absurd (let z : ◌≡◌ {A = ℕ} 0 1 = cc in omega arith)

from_stopped : (L k : ℕ) (r : Front Term) → place_of L r ≡ refused k → r ≡ stopped k
from_stopped L k (found a l) e = cc
from_stopped L k (stopped j) e = cc

-- what is left of s after its first i and then `front` begins at the place that the length of the rest gives
rest_place : (s front rest : List ℕ) (i : ℕ) → i ≤ length s → drop i s ≡ front ++ rest → (rest ≡ drop (length s - length rest) s) × (i + length front ≡ length s - length rest) × (length rest ≤ length s)
rest_place s front rest i h e =
    let l : length s - i ≡ length front + length rest = sym (length-drop i s) ∙ ap length e ∙ length-append front rest in
    let p : i + length front ≡ length s - length rest = omega arith in
    (sym (drop-append_seam front rest) ∙ ap (drop (length front)) (sym e) ∙ drop-drop (length front) i s ∙ ap (λ (k : ℕ). drop k s) p, p, omega arith)

-- where a part begins that follows one that was read
next_part : (s : List ℕ) (at n p : ℕ) → at ≤ length s → (r : Came (length s) p (read_front n (drop at s))) → r.rest ≡ drop p s
next_part s at n p h r =
    let c = front_sound n (drop at s) r.term r.rest r.is in
    let q = rest_place s (codes r.term) r.rest at h c.0 in
    q.0 ∙ ap (λ (k : ℕ). drop k s) r.place

-- The reading at a place past the end.
pub part_end : (s : List ℕ) (at n : ℕ) → length s ≤ at → part_at s at n ≡ refused 3
unfolding part_at
part_end s at n h = rw (drop_of_length-le s h, front_none n)

-- The reading at a place within, by the shape of the code there.
module _ (s : List ℕ) (at n : ℕ) (h : at < length s) where
  first_at : read_front n (drop at s) ≡ read_parts (read_front n) (code_of n (get_or s at 0)) (drop (at + 1) s)
  first_at = ap (read_front n) (drop-cons s at 0 h ∙ ap (λ (k : ℕ). get_or s at 0 ∷ drop k s) (sym (add-one at))) ∙ front_step n (get_or s at 0) (drop (at + 1) s)

  here : part_at s at n ≡ place_of (length s) (read_parts (read_front n) (code_of n (get_or s at 0)) (drop (at + 1) s))
  unfolding part_at
  here = ap (place_of (length s)) first_at

  pub part_whole : shape_of (code_of n (get_or s at 0)) ≡ Whole → part_at s at n ≡ accepted (at + 1)
  part_whole e = here ∙ parts_whole (length s) (read_front n) (drop (at + 1) s) (code_of n (get_or s at 0)) e
      ∙ ap accepted (rw (length-drop (at + 1) s) (omega arith))

  pub part_none : (get_or s at 0 ≡ 0x32 → ⊥) → shape_of (code_of n (get_or s at 0)) ≡ Other → part_at s at n ≡ refused 2
  part_none h e = here ∙ parts_none (length s) (read_front n) (drop (at + 1) s) n (get_or s at 0) (code_of n (get_or s at 0)) (code_right n (get_or s at 0)) h e

  pub part_one : shape_of (code_of n (get_or s at 0)) ≡ One → part_at s at n ≡ part_at s (at + 1) n
  unfolding part_at
  part_one e = here ∙ parts_one (length s) (read_front n) (drop (at + 1) s) (code_of n (get_or s at 0)) e

  -- a quorum: k or m missing; both there, and out of range, or in range
  as_quorum : get_or s at 0 ≡ 0x32 → part_at s at n ≡ place_of (length s) (read_quorum (read_front n) (drop (at + 1) s))
  unfolding code_of
  as_quorum e = here ∙ rw e

  too_short : (l : List ℕ) → length l ≤ 1 → place_of (length s) (read_quorum (read_front n) l) ≡ refused 3
  too_short [] l = refl
  too_short (k ∷ []) l = refl
  too_short (k ∷ m ∷ ds) l = absurd (omega arith)

  pub part_quorum_short : get_or s at 0 ≡ 0x32 → length s ≤ at + 2 → part_at s at n ≡ refused 3
  part_quorum_short e l = as_quorum e ∙ too_short (drop (at + 1) s) (rw (length-drop (at + 1) s) (omega arith))

  both_there : at + 2 < length s → drop (at + 1) s ≡ get_or s (at + 1) 0 ∷ get_or s (at + 2) 0 ∷ drop (at + 3) s
  both_there l =
      let e : suc (at + 1) ≡ at + 2 = omega arith in
      let f : suc (at + 2) ≡ at + 3 = omega arith in
      drop-cons s (at + 1) 0 (omega arith)
      ∙ ap (λ (l : List ℕ). get_or s (at + 1) 0 ∷ l) (ap (λ (k : ℕ). drop k s) e ∙ drop-cons s (at + 2) 0 l ∙ ap (λ (k : ℕ). get_or s (at + 2) 0 ∷ drop k s) f)

  pub part_quorum_refused : get_or s at 0 ≡ 0x32 → at + 2 < length s → quorate (get_or s (at + 1) 0) (get_or s (at + 2) 0) ≡ false → part_at s at n ≡ refused 2
  part_quorum_refused e l q = as_quorum e ∙ rw (both_there l, q)

  pub part_quorum : get_or s at 0 ≡ 0x32 → at + 2 < length s → quorate (get_or s (at + 1) 0) (get_or s (at + 2) 0) ≡ true → part_at s at n ≡ parts_at s (at + 3) n (get_or s (at + 2) 0)
  unfolding parts_at
  part_quorum e l q =
      as_quorum e
      ∙ rw (both_there l, q) (all_place (length s) (read_front n) s (quorum (get_or s (at + 1) 0)) (read_all (read_front n) (get_or s (at + 2) 0) (drop (at + 3) s)))

  pub part_two_stop : shape_of (code_of n (get_or s at 0)) ≡ Two → (k : ℕ) → part_at s (at + 1) n ≡ refused k → part_at s at n ≡ refused k
  unfolding part_at
  part_two_stop e k f = here ∙ parts_two_stop (length s) (read_front n) (drop (at + 1) s) (code_of n (get_or s at 0)) e k (from_stopped (length s) k (read_front n (drop (at + 1) s)) f)

  pub part_two : shape_of (code_of n (get_or s at 0)) ≡ Two → (p : ℕ) → part_at s (at + 1) n ≡ accepted p → part_at s at n ≡ part_at s p n
  unfolding part_at
  part_two e p f =
      let r = from_next (length s) p (read_front n (drop (at + 1) s)) f in
      here ∙ parts_two (length s) (read_front n) (drop (at + 1) s) (code_of n (get_or s at 0)) e r.term r.rest r.is
      ∙ ap (λ (l : List ℕ). place_of (length s) (read_front n l)) (next_part s (at + 1) n p (omega arith) r)

-- The reading of m parts.
module _ (s : List ℕ) (at n : ℕ) (h : at ≤ length s) where
  pub parts_done : parts_at s at n 0 ≡ accepted at
  unfolding parts_at read_all
  parts_done = ap accepted (rw (length-drop at s) (omega arith))

  pub parts_stop : (m k : ℕ) → 0 < m → part_at s at n ≡ refused k → parts_at s at n m ≡ refused k
  unfolding parts_at part_at
  parts_stop zero k l f = absurd (omega arith)
  parts_stop (suc m) k l f = parts_first_stop (length s) (read_front n) (drop at s) m k (from_stopped (length s) k (read_front n (drop at s)) f)

  pub parts_next : (m p : ℕ) → 0 < m → part_at s at n ≡ accepted p → parts_at s at n m ≡ parts_at s p n (m - 1)
  unfolding parts_at part_at
  parts_next zero p l f = absurd (omega arith)
  parts_next (suc m) p l f =
      let r = from_next (length s) p (read_front n (drop at s)) f in
      let e : suc m - 1 ≡ m = omega arith in
      rw e
      (parts_first (length s) (read_front n) (drop at s) m r.term r.rest r.is
      ∙ ap (λ (l : List ℕ). place_of (length s) (read_all (read_front n) m l)) (next_part s at n p h r))

-- Part of the measure of `read_part` and `read_quorum`, of which each goes on to the other at one place: the first where the code is a quorum's or none, the
-- second where it is another.
unfoldable pub turn : Shape → ℕ
turn Whole = 2
turn One = 2
turn Two = 2
turn Other = 0

unfoldable pub turn_at : List ℕ → ℕ → ℕ → ℕ
turn_at s at n = turn (shape_of (code_of n (get_or s at 0)))

turn_few : (k : Shape) → turn k ≤ 2
unfolding turn
turn_few Whole = omega arith
turn_few One = omega arith
turn_few Two = omega arith
turn_few Other = omega arith

pub turn_most : (s : List ℕ) (at n : ℕ) → turn_at s at n ≤ 2
unfolding turn_at
turn_most s at n = turn_few (shape_of (code_of n (get_or s at 0)))

pub turn_other : (s : List ℕ) (at n : ℕ) (k : Shape) → k ≡ shape_of (code_of n (get_or s at 0)) → k ≡ Other → turn_at s at n ≡ 0
unfolding turn turn_at
turn_other s at n k e h = ap turn (sym e ∙ h)

-- A part that is read has at least one code, and ends within the slice.
pub part_ahead : (s : List ℕ) (at n p : ℕ) → part_at s at n ≡ accepted p → (at < p) × (p ≤ length s)
unfolding part_at
part_ahead s at n p f =
    let r = from_next (length s) p (read_front n (drop at s)) f in
    let c = front_sound n (drop at s) r.term r.rest r.is in
    let l : length s - at ≡ length (codes r.term) + length r.rest = sym (length-drop at s) ∙ ap length c.0 ∙ length-append (codes r.term) r.rest in
    let k : 1 ≤ length (codes r.term) = codes_some r.term in
    let e : length s - length r.rest ≡ p = r.place in
    (omega arith, omega arith)

-- The answer for a whole list of codes, by its length and by the reading at place 0.
module _ (s : List ℕ) (n : ℕ) where
  pub term_sized : WrongLength s → done (read_term n s) ≡ refused 1
  term_sized h = ap done ((refused_one n s).1 h)

  module _ (a : 1 ≤ length s) (b : length s ≤ 64) where
    pub term_stop : (k : ℕ) → part_at s 0 n ≡ refused k → done (read_term n s) ≡ refused k
    unfolding part_at
    term_stop k f = rw (term_within n s a b, from_stopped (length s) k (read_front n s) f)

    left_over_lem : (t : Term) (rest : List ℕ) → 0 < length rest → done (all_read (found t rest)) ≡ refused 4
    left_over_lem t [] h = absurd (omega arith)
    left_over_lem t (c ∷ rest) h = refl

    none_left : (t : Term) (rest : List ℕ) → length rest ≡ 0 → done (all_read (found t rest)) ≡ accepted tt
    none_left t [] h = refl
    none_left t (c ∷ rest) h = absurd (omega arith)

    pub term_more : (p : ℕ) → part_at s 0 n ≡ accepted p → p < length s → done (read_term n s) ≡ refused 4
    unfolding part_at
    term_more p f h =
        let r = from_next (length s) p (read_front n s) f in
        let e : length s - length r.rest ≡ p = r.place in
        rw (term_within n s a b, r.is) (left_over_lem r.term r.rest (omega arith))

    pub term_done : (p : ℕ) → part_at s 0 n ≡ accepted p → length s ≤ p → done (read_term n s) ≡ accepted tt
    unfolding part_at
    term_done p f h =
        let r = from_next (length s) p (read_front n s) f in
        let e : length s - length r.rest ≡ p = r.place in
        rw (term_within n s a b, r.is) (none_left r.term r.rest (omega arith))

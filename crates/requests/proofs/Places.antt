-- Where a quorum is held, and how it is refused (document 02, K4). Assumes nothing.
use mathlib.Core.Path.{◌≡◌, refl, sym, ap, ◌∙◌}
use mathlib.Core.Logic.{◌⊎◌, inl, inr}
use Prim.Native.Nat.{ℕ, zero, suc, ◌^◌, ◌≤◌, ◌<◌}
use native.Mathlib.Omega.{arith}
use mathlib.Core.Bool.{Bool, true, false, cond, ◌&&◌, ◌||◌, false≢true}
use mathlib.Core.List.{List, [], ◌∷◌, ◌++◌, append_assoc, append-nil}
use lib.Dec.{leb}
use lib.ListN.{length}
use borrow.Author.Tests.{leb-true, le-leb}
use Rattle.model.specs.Sides.{Side, confidentiality, integrity}
use Rattle.model.specs.Coalitions.{within}
use Rattle.model.specs.Terms.{Term, quorum, Terms, nil, cons, count, quorate, codes, codes_all, NamesBelow, PartsBelow, code_of, found, stopped, read_all, read_quorum, read_front, all_read, read_term, held, held_count}
use Rattle.model.specs.Grants.{acts_statically}
use Rattle.model.proofs.Truth.{false_of, and_intro, implies_intro, cond_case, lt_or_ge}
use Rattle.model.proofs.Held.{quorum_held, count_part}
use Rattle.model.proofs.Reading.{quorate_true, front_step, front_codes, all_codes, term_within}
use Rattle.model.proofs.Search.{every_intro}
use Rattle.model.proofs.Monotone.{held_monotone}
use Rattle.requests.specs.Quorums.{held_at, HeldAtEach, Ascending, PlacesHeld, HeldByPlaces, APlaceHeld, OneAndAll, MoreForFewer, MoreMembersHold, NoQuorum, LeftToRight}

-- ---- held by places

-- the same places once a part stands before all others, and once the first part is taken away
unfoldable raised : List ℕ → List ℕ
raised [] = []
raised (i ∷ is) = suc i ∷ raised is

unfoldable lowered : List ℕ → List ℕ
lowered [] = []
lowered (zero ∷ is) = zero ∷ lowered is
lowered (suc i ∷ is) = i ∷ lowered is

raised_long : (is : List ℕ) → length (raised is) ≡ length is
unfolding raised
raised_long [] = refl
raised_long (i ∷ is) = ap suc (raised_long is)

lowered_long : (is : List ℕ) → length (lowered is) ≡ length is
unfolding lowered
lowered_long [] = refl
lowered_long (zero ∷ is) = ap suc (lowered_long is)
lowered_long (suc i ∷ is) = ap suc (lowered_long is)

raised_ascending : (l : ℕ) (is : List ℕ) → Ascending l is → Ascending (suc l) (raised is)
unfolding raised Ascending
raised_ascending l [] a = tt
raised_ascending l (i ∷ is) a = (omega (arith, a.0), raised_ascending (suc i) is a.1)

lowered_ascending : (l : ℕ) (is : List ℕ) → Ascending (suc l) is → Ascending l (lowered is)
unfolding lowered Ascending
lowered_ascending l [] a = tt
lowered_ascending l (zero ∷ is) a = absurd (omega (arith, a.0))
lowered_ascending l (suc i ∷ is) a = (omega (arith, a.0), lowered_ascending (suc i) is a.1)

raised-held : (t : Term) (ts : Terms) (s : Side) (c : ℕ) (is : List ℕ) → HeldAtEach ts is s c → HeldAtEach (cons t ts) (raised is) s c
unfolding raised held_at HeldAtEach
raised-held t ts s c [] h = tt
raised-held t ts s c (i ∷ is) h = (h.0, raised-held t ts s c is h.1)

lowered_held : (t : Term) (ts : Terms) (s : Side) (c : ℕ) (l : ℕ) (is : List ℕ) → Ascending (suc l) is → HeldAtEach (cons t ts) is s c → HeldAtEach ts (lowered is) s c
unfolding lowered held_at HeldAtEach Ascending
lowered_held t ts s c l [] a h = tt
lowered_held t ts s c l (zero ∷ is) a h = absurd (omega (arith, a.0))
lowered_held t ts s c l (suc i ∷ is) a h = (h.0, lowered_held t ts s c (suc i) is a.1 h.1)

no_places : (ts : Terms) (s : Side) (c : ℕ) → PlacesHeld 0 ts s c
unfolding Ascending HeldAtEach
no_places ts s c = record { places = []; different = tt; so_many = refl; each = tt }

one_lower : (is : List ℕ) → Ascending 1 is → Ascending 0 is
unfolding Ascending
one_lower [] a = tt
one_lower (i ∷ is) a = (omega arith, a.1)

-- places among the later parts
later_places : (k : ℕ) (t : Term) (ts : Terms) (s : Side) (c : ℕ) → PlacesHeld k ts s c → PlacesHeld k (cons t ts) s c
later_places k t ts s c p = record {
  places = raised p.places;
  different = one_lower (raised p.places) (raised_ascending 0 p.places p.different);
  so_many = raised_long p.places ∙ p.so_many;
  each = raised-held t ts s c p.places p.each;
}

-- the first place, and places among the later parts
first_place : (k : ℕ) (t : Term) (ts : Terms) (s : Side) (c : ℕ) → held t s c ≡ true → PlacesHeld k ts s c → PlacesHeld (suc k) (cons t ts) s c
unfolding held_at HeldAtEach Ascending
first_place k t ts s c h p = record {
  places = 0 ∷ raised p.places;
  different = (omega arith, raised_ascending 0 p.places p.different);
  so_many = ap suc (raised_long p.places ∙ p.so_many);
  each = (h, raised-held t ts s c p.places p.each);
}

-- from what the later parts have, by whether the first is held
with_first : (k : ℕ) (t : Term) (ts : Terms) (s : Side) (c : ℕ) → ((j : ℕ) → j ≤ held_count ts s c → PlacesHeld j ts s c)
    → (b : Bool) → held t s c ≡ b → suc k ≤ cond b (suc (held_count ts s c)) (held_count ts s c) → PlacesHeld (suc k) (cons t ts) s c
with_first k t ts s c later true e h = first_place k t ts s c e (later k (omega arith))
with_first k t ts s c later false e h = later_places (suc k) t ts s c (later (suc k) h)

places_of : (ts : Terms) (s : Side) (c : ℕ) (k : ℕ) → k ≤ held_count ts s c → PlacesHeld k ts s c
unfolding held
places_of nil s c zero h = no_places nil s c
places_of nil s c (suc k) h = absurd (omega arith)
places_of (cons t ts) s c zero h = no_places (cons t ts) s c
places_of (cons t ts) s c (suc k) h = with_first k t ts s c (λ j l. places_of ts s c j l) (held t s c) refl h

-- one part more does not lower the count
count_later : (t : Term) (ts : Terms) (s : Side) (c : ℕ) → held_count ts s c ≤ held_count (cons t ts) s c
count_later t ts s c = rw (count_part t ts s c) (cond_case (λ x. held_count ts s c ≤ x) (held t s c) _ _ (λ _. omega arith) (λ _. omega arith))

count_first : (t : Term) (ts : Terms) (s : Side) (c : ℕ) → held t s c ≡ true → held_count (cons t ts) s c ≡ suc (held_count ts s c)
count_first t ts s c e = count_part t ts s c ∙ rw e

count_of : (ts : Terms) (s : Side) (c : ℕ) (is : List ℕ) → Ascending 0 is → HeldAtEach ts is s c → length is ≤ held_count ts s c
unfolding held_at HeldAtEach Ascending
count_of nil s c [] a h = omega arith
count_of nil s c (i ∷ is) a h = absurd (false≢true h.0)
count_of (cons t ts) s c [] a h = omega arith
count_of (cons t ts) s c (zero ∷ is) a h =
    omega (arith, count_first t ts s c h.0, lowered_long is, count_of ts s c (lowered is) (lowered_ascending 0 is a.1) (lowered_held t ts s c 0 is a.1 h.1))
count_of (cons t ts) s c (suc i ∷ is) a h =
    omega (arith, count_later t ts s c, lowered_long is, count_of ts s c (i ∷ lowered is) (omega arith, lowered_ascending (suc i) is a.1) (h.0, lowered_held t ts s c (suc i) is a.1 h.1))

-- what `held` says of a quorum, as a count
held-count : (k : ℕ) (ts : Terms) (s : Side) (c : ℕ) → held (quorum k ts) s c ≡ true → k ≤ held_count ts s c
held-count k ts s c e = leb-true k (held_count ts s c) (sym (quorum_held k ts s c) ∙ e)

count_held : (k : ℕ) (ts : Terms) (s : Side) (c : ℕ) → k ≤ held_count ts s c → held (quorum k ts) s c ≡ true
count_held k ts s c h = quorum_held k ts s c ∙ le-leb k (held_count ts s c) h

pub held_by_places : HeldByPlaces
held_by_places k ts s c = (
  λ e. places_of ts s c k (held-count k ts s c e),
  λ p. count_held k ts s c (omega (arith, p.so_many, count_of ts s c p.places p.different p.each)),
)

-- ---- one and all

a_place : (ts : Terms) (s : Side) (c : ℕ) (is : List ℕ) → length is ≡ 1 → HeldAtEach ts is s c → APlaceHeld ts s c
unfolding HeldAtEach
a_place ts s c [] l h = absurd (omega arith)
a_place ts s c (i ∷ is) l h = record { place = i; there = h.0 }

one_place : (ts : Terms) (s : Side) (c : ℕ) → APlaceHeld ts s c → PlacesHeld 1 ts s c
unfolding HeldAtEach Ascending
one_place ts s c p = record { places = p.place ∷ []; different = (omega arith, tt); so_many = refl; each = (p.there, tt) }

-- no more are held than there are
count_most : (ts : Terms) (s : Side) (c : ℕ) → held_count ts s c ≤ count ts
unfolding held count
count_most nil s c = omega arith
count_most (cons t ts) s c = cond_case (λ x. x ≤ suc (count ts)) (held t s c) _ _ (λ _. omega (arith, count_most ts s c)) (λ _. omega (arith, count_most ts s c))

-- where all are held, so is the first, and so are all later ones
all_first : (t : Term) (ts : Terms) (s : Side) (c : ℕ) → suc (count ts) ≤ held_count (cons t ts) s c → (held t s c ≡ true) × (count ts ≤ held_count ts s c)
all_first t ts s c h = by (held t s c) refl
  where
    by : (b : Bool) → held t s c ≡ b → (held t s c ≡ true) × (count ts ≤ held_count ts s c)
    by true e = (e, omega (arith, h, count_first t ts s c e))
    by false e = let z : held_count (cons t ts) s c ≡ held_count ts s c = count_part t ts s c ∙ rw e in absurd (omega (arith, h, z, count_most ts s c))

all_held : (ts : Terms) (s : Side) (c : ℕ) → count ts ≤ held_count ts s c → (i : ℕ) → i < count ts → held_at ts i s c ≡ true
unfolding held_at count
all_held nil s c h i l = absurd (omega arith)
all_held (cons t ts) s c h zero l = (all_first t ts s c h).0
all_held (cons t ts) s c h (suc i) l = all_held ts s c (all_first t ts s c h).1 i (omega arith)

held_all : (ts : Terms) (s : Side) (c : ℕ) → ((i : ℕ) → i < count ts → held_at ts i s c ≡ true) → count ts ≤ held_count ts s c
unfolding held_at count
held_all nil s c h = omega arith
held_all (cons t ts) s c h =
    let e = h 0 (omega arith) in
    let f = held_all ts s c (λ i l. h (suc i) (omega arith)) in
    omega (arith, count_first t ts s c e, f)

one_either : (a b : Bool) → leb 1 (cond a (suc (cond b 1 0)) (cond b 1 0)) ≡ (a || b)
one_either true true = refl
one_either true false = refl
one_either false true = refl
one_either false false = refl

two_both : (a b : Bool) → leb 2 (cond a (suc (cond b 1 0)) (cond b 1 0)) ≡ (a && b)
two_both true true = refl
two_both true false = refl
two_both false true = refl
two_both false false = refl

pub one_and_all : OneAndAll
unfolding held
one_and_all = record {
  one = λ ts s c. (
    λ e. let p = (held_by_places 1 ts s c).0 e in a_place ts s c p.places p.so_many p.each,
    λ p. (held_by_places 1 ts s c).1 (one_place ts s c p),
  );
  all = λ ts s c. (λ e. all_held ts s c (held-count (count ts) ts s c e), λ h. count_held (count ts) ts s c (held_all ts s c h));
  one_of_two = λ p q s c. one_either (held p s c) (held q s c);
  two_of_two = λ p q s c. two_both (held p s c) (held q s c);
}

-- ---- more parts, more members

fewer : (j k : ℕ) (ts : Terms) (s : Side) (c : ℕ) → k ≤ j → held (quorum j ts) s c ≡ true → held (quorum k ts) s c ≡ true
fewer j k ts s c h e = count_held k ts s c (omega (arith, h, held-count j ts s c e))

pub more_for_fewer : MoreForFewer
unfolding acts_statically within
more_for_fewer n j k ts h = and_intro
    (every_intro _ (2 ^ n) (λ c _. implies_intro (held (quorum j ts) confidentiality c) (held (quorum k ts) confidentiality c) (fewer j k ts confidentiality c h)))
    (every_intro _ (2 ^ n) (λ c _. implies_intro (held (quorum j ts) integrity c) (held (quorum k ts) integrity c) (fewer j k ts integrity c h)))

pub more_members_hold : MoreMembersHold
more_members_hold n k ts s = held_monotone n (quorum k ts) s

-- ---- refused from left to right

no_quorum : (k m : ℕ) → NoQuorum k m → quorate k m ≡ false
no_quorum k m h = false_of (quorate k m) (λ e. let q = quorate_true k m e in none q.0 q.1 q.2 h)
  where
    none : 1 ≤ k → k ≤ m → m ≤ 12 → NoQuorum k m → ⊥
    none a b d (inl x) = omega arith
    none a b d (inr (inl x)) = omega arith
    none a b d (inr (inr x)) = omega arith

in_range : (k m : ℕ) → (NoQuorum k m → ⊥) → quorate k m ≡ true
in_range k m h =
    and_intro (from (lt_or_ge k 1) (λ a. h (inl a)) (le-leb 1 k))
    (and_intro (from (lt_or_ge m k) (λ a. h (inr (inl a))) (le-leb k m)) (from (lt_or_ge 12 m) (λ a. h (inr (inr a))) (le-leb m 12)))
  where
    from : {A B C : Type 0} → A ⊎ B → (A → ⊥) → (B → C) → C
    from (inl a) f g = absurd (f a)
    from (inr b) f g = g b

-- some parts, and then none
all_stop : (n : ℕ) (ts : Terms) (m : ℕ) (rest : List ℕ) (r : ℕ) → PartsBelow n ts → count ts < m → read_front n rest ≡ stopped r → read_all (read_front n) m (codes_all ts ++ rest) ≡ stopped r
unfolding read_all codes NamesBelow count
all_stop n nil zero rest r g l e = absurd (omega arith)
all_stop n nil (suc m) rest r g l e = rw e
all_stop n (cons t ts) zero rest r g l e = absurd (omega arith)
all_stop n (cons t ts) (suc m) rest r g l e =
    let f = all_stop n ts m rest r g.1 (omega arith) e in
    rw (append_assoc, front_codes n t (codes_all ts ++ rest) g.0, f)

-- what is read after a quorum's code
quorum_front : (n : ℕ) (cs : List ℕ) → length cs ≤ 63 → read_term n (0x32 ∷ cs) ≡ all_read (read_quorum (read_front n) cs)
unfolding code_of
quorum_front n cs h = term_within n (0x32 ∷ cs) (omega arith) (omega arith) ∙ ap all_read (front_step n 0x32 cs)

pub left_to_right : LeftToRight
left_to_right = record {
  no_k = λ n. quorum_front n [] (omega arith);
  no_m = λ n k. quorum_front n (k ∷ []) (omega arith);
  out_of_range = λ n k m rest h q. quorum_front n (k ∷ m ∷ rest) (omega arith) ∙ rw (no_quorum k m q);
  in_a_part = λ n k m ts rest r h q g l e. quorum_front n (k ∷ m ∷ (codes_all ts ++ rest)) (omega arith) ∙ rw (in_range k m q, all_stop n ts m rest r g l e);
  whole = λ n k ts h q g.
      let e : read_all (read_front n) (count ts) (codes_all ts) ≡ found ts [] = ap (read_all (read_front n) (count ts)) (sym (append-nil (codes_all ts))) ∙ all_codes n ts [] g in
      quorum_front n (k ∷ count ts ∷ codes_all ts) (omega arith) ∙ rw (in_range k (count ts) q, e);
  codes_left = λ n k ts x rest h q g. quorum_front n (k ∷ count ts ∷ (codes_all ts ++ x ∷ rest)) (omega arith) ∙ rw (in_range k (count ts) q, all_codes n ts (x ∷ rest) g);
}

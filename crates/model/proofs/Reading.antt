-- Laws of reading terms (document 01, "Terms"): reading undoes `codes`, and what is read is `codes` of the term read. Assumes nothing.
use Prim.Native.Nat.{ℕ, zero, suc, ◌<◌, ◌≤◌}
use native.Mathlib.Omega.{arith}
use mathlib.Core.Logic.{◌↔◌}
use mathlib.Core.Path.{◌≡◌, refl, sym, ap, ◌∙◌}
use mathlib.Core.Bool.{Bool, true, false, cond, ◌&&◌}
use mathlib.Core.List.{List, [], ◌∷◌, ◌++◌, append_assoc, append-nil}
use lib.Dec.{ltb, leb, eqb}
use lib.ListN.{length, length-append}
use borrow.Author.Tests.{ltb-true, eqb-true, leb-true, lt-ltb, le-leb}
use Rattle.model.specs.Readings.{Reading, accepted, refused, require}
use Rattle.model.specs.Sides.{Side, confidentiality, integrity}
use Rattle.model.specs.Terms.{Term, name, top, bottom, conj, disj, project, quorum, Terms, nil, cons, count, quorate, project_code, codes, codes_all, NamesBelow, PartsBelow, Code, whole, one, two, many, none, code_of, Front, found, stopped, onward, read_all, read_quorum, read_parts, read_within, read_front, all_read, term_length, read_term}
use Rattle.model.proofs.Truth.{cond_case, and_left, and_right}

-- a term has at least one code
pub codes_some : (t : Term) → 1 ≤ length (codes t)
unfolding codes
codes_some (name i) = omega arith
codes_some top = omega arith
codes_some bottom = omega arith
codes_some (conj p q) = omega arith
codes_some (disj p q) = omega arith
codes_some (project s p) = omega arith
codes_some (quorum k ts) = omega arith

-- what `quorate` says
pub quorate_true : (k m : ℕ) → quorate k m ≡ true → (1 ≤ k) × (k ≤ m) × (m ≤ 12)
quorate_true k m e =
    let r = and_right (leb 1 k) (leb k m && leb m 12) e in
    (leb-true 1 k (and_left (leb 1 k) (leb k m && leb m 12) e), leb-true k m (and_left (leb k m) (leb m 12) r), leb-true m 12 (and_right (leb k m) (leb m 12) r))

-- c is the first code of what `code_of` says that it is
abbrev pub Right : ℕ → ℕ → Code → Type 0
Right n c (whole t) = (codes t ≡ c ∷ []) × NamesBelow n t
Right n c (one f) = (p : Term) → (codes (f p) ≡ c ∷ codes p) × (NamesBelow n p → NamesBelow n (f p))
Right n c (two f) = (p q : Term) → (codes (f p q) ≡ c ∷ (codes p ++ codes q)) × (NamesBelow n p → NamesBelow n q → NamesBelow n (f p q))
Right n c many = c ≡ 0x32
Right n c none = Unit {0}

name_right : (n c : ℕ) → c < 12 → (b : Bool) → (b ≡ true → c < n) → Right n c (cond b (whole (name c)) none)
unfolding codes NamesBelow
name_right n c h true f = (refl, (h, f refl))
name_right n c h false f = tt

pub code_right : (n c : ℕ) → Right n c (code_of n c)
unfolding code_of codes NamesBelow
code_right n c =
    cond_case (Right n c) (ltb c 12) _ _
    (λ p. name_right n c (ltb-true c 12 p) _ (ltb-true c n))
    (λ p. cond_case (Right n c) (eqb c 0x20) _ _ (λ q. (rw (eqb-true c 0x20 q), tt))
    (λ _. cond_case (Right n c) (eqb c 0x21) _ _ (λ q. (rw (eqb-true c 0x21 q), tt))
    (λ _. cond_case (Right n c) (eqb c 0x30) _ _ (λ q a b. (rw (eqb-true c 0x30 q), λ x y. (x, y)))
    (λ _. cond_case (Right n c) (eqb c 0x31) _ _ (λ q a b. (rw (eqb-true c 0x31 q), λ x y. (x, y)))
    (λ _. cond_case (Right n c) (eqb c 0x32) _ _ (eqb-true c 0x32)
    (λ _. cond_case (Right n c) (eqb c 0x40) _ _ (λ q a. (rw (eqb-true c 0x40 q), λ x. x))
    (λ _. cond_case (Right n c) (eqb c 0x41) _ _ (λ q a. (rw (eqb-true c 0x41 q), λ x. x)) (λ _. tt))))))))

-- cs is the codes of what was read, and then the rest
abbrev Sound : ℕ → List ℕ → Front Term → Type 0
Sound n cs (found t rest) = (cs ≡ codes t ++ rest) × NamesBelow n t
Sound n cs (stopped r) = Unit {0}

-- so with m terms
abbrev pub SoundAll : ℕ → ℕ → List ℕ → Front Terms → Type 0
SoundAll n m cs (found ts rest) = (cs ≡ codes_all ts ++ rest) × PartsBelow n ts × (count ts ≡ m)
SoundAll n m cs (stopped r) = Unit {0}

module _ (n : ℕ) (part : List ℕ → Front Term) (each : (ds : List ℕ) → Sound n ds (part ds)) where
  next_sound : (m : ℕ) (cs : List ℕ) (p : Term) (rest : List ℕ) → Sound n cs (found p rest) → (r : Front Terms) → SoundAll n m rest r
      → SoundAll n (suc m) cs (onward r (λ ps last. found (cons p ps) last))
  unfolding codes NamesBelow count
  next_sound m cs p rest e (found ps last) s = (rw (e.0, s.0, append_assoc), (e.1, s.1), ap suc s.2)
  next_sound m cs p rest e (stopped k) s = tt

  first_sound : (m : ℕ) (cs : List ℕ) → ((ds : List ℕ) → SoundAll n m ds (read_all part m ds)) → (r : Front Term) → Sound n cs r
      → SoundAll n (suc m) cs (onward r (λ p rest. onward (read_all part m rest) (λ ps last. found (cons p ps) last)))
  first_sound m cs later (found p rest) s = next_sound m cs p rest s (read_all part m rest) (later rest)
  first_sound m cs later (stopped k) s = tt

  all_sound : (m : ℕ) (cs : List ℕ) → SoundAll n m cs (read_all part m cs)
  unfolding read_all codes NamesBelow count
  all_sound zero cs = (refl, tt, refl)
  all_sound (suc m) cs = first_sound m cs (all_sound m) (part cs) (each cs)

  whole_sound : (k m : ℕ) (cs : List ℕ) → quorate k m ≡ true → (r : Front Terms) → SoundAll n m cs r → Sound n (0x32 ∷ k ∷ m ∷ cs) (onward r (λ ps rest. found (quorum k ps) rest))
  unfolding codes NamesBelow
  whole_sound k m cs q (found ps rest) s = (rw (s.0, s.2), (rw s.2 q, s.1))
  whole_sound k m cs q (stopped r) s = tt

  quorum_sound : (cs : List ℕ) → Sound n (0x32 ∷ cs) (read_quorum part cs)
  quorum_sound [] = tt
  quorum_sound (k ∷ []) = tt
  quorum_sound (k ∷ m ∷ cs) =
      cond_case (Sound n (0x32 ∷ k ∷ m ∷ cs)) (quorate k m) _ _ (λ q. whole_sound k m cs q (read_all part m cs) (all_sound m cs)) (λ _. tt)

module _ (n c : ℕ) (cs : List ℕ) where
  one_sound : (f : Term → Term) → Right n c (one f) → (r : Front Term) → Sound n cs r → Sound n (c ∷ cs) (onward r (λ p rest. found (f p) rest))
  one_sound f h (found p rest) s = (rw ((h p).0, s.0), (h p).1 s.1)
  one_sound f h (stopped k) s = tt

  second_sound : (f : Term → Term → Term) → Right n c (two f) → (p : Term) (rest : List ℕ) → Sound n cs (found p rest) → (r : Front Term) → Sound n rest r
      → Sound n (c ∷ cs) (onward r (λ q last. found (f p q) last))
  second_sound f h p rest e (found q last) s = (rw ((h p q).0, e.0, s.0, append_assoc), (h p q).1 e.1 s.1)
  second_sound f h p rest e (stopped k) s = tt

  two_sound : (f : Term → Term → Term) → Right n c (two f) → (part : List ℕ → Front Term) → ((ds : List ℕ) → Sound n ds (part ds)) → (r : Front Term) → Sound n cs r
      → Sound n (c ∷ cs) (onward r (λ p rest. onward (part rest) (λ q last. found (f p q) last)))
  two_sound f h part ps (found p rest) s = second_sound f h p rest s (part rest) (ps rest)
  two_sound f h part ps (stopped k) s = tt

  parts_sound : (part : List ℕ → Front Term) → ((ds : List ℕ) → Sound n ds (part ds)) → (m : Code) → Right n c m → Sound n (c ∷ cs) (read_parts part m cs)
  parts_sound part ps (whole t) h = (rw h.0, h.1)
  parts_sound part ps (one f) h = one_sound f h (part cs) (ps cs)
  parts_sound part ps (two f) h = two_sound f h part ps (part cs) (ps cs)
  parts_sound part ps many h = rw h (quorum_sound n part ps cs)
  parts_sound part ps none h = tt

within-sound : (deep n : ℕ) (cs : List ℕ) → Sound n cs (read_within deep n cs)
unfolding read_within
within-sound zero n cs = tt
within-sound (suc deep) n [] = tt
within-sound (suc deep) n (c ∷ cs) = parts_sound n c cs (read_within deep n) (within-sound deep n) (code_of n c) (code_right n c)

-- a term that was read took at least one code
pub rest_shorter : (cs : List ℕ) (t : Term) (rest : List ℕ) → cs ≡ codes t ++ rest → length rest < length cs
rest_shorter cs t rest e = omega (arith, codes_some t, simp length-append at (ap length e))

-- two readers of parts that agree on lists that are no longer than cs
module _ (n : ℕ) (cs : List ℕ) (a b : List ℕ → Front Term) (same : (ds : List ℕ) → length ds ≤ length cs → a ds ≡ b ds)
    (sound : (ds : List ℕ) → Sound n ds (b ds)) where
  two_same : (f : Term → Term → Term) (r : Front Term) → Sound n cs r
      → onward r (λ p rest. onward (a rest) (λ q last. found (f p q) last)) ≡ onward r (λ p rest. onward (b rest) (λ q last. found (f p q) last))
  two_same f (found p rest) s =
      let l : length rest < length cs = rest_shorter cs p rest s.0 in
      rw (same rest (omega arith))
  two_same f (stopped k) s = refl

  first_same : (m : ℕ) (ds : List ℕ) → length ds ≤ length cs → ((es : List ℕ) → length es ≤ length cs → read_all a m es ≡ read_all b m es) → (r : Front Term) → Sound n ds r
      → onward r (λ p rest. onward (read_all a m rest) (λ ps last. found (cons p ps) last)) ≡ onward r (λ p rest. onward (read_all b m rest) (λ ps last. found (cons p ps) last))
  first_same m ds h later (found p rest) s =
      let l : length rest < length ds = rest_shorter ds p rest s.0 in
      rw (later rest (omega arith))
  first_same m ds h later (stopped k) s = refl

  all_same : (m : ℕ) (ds : List ℕ) → length ds ≤ length cs → read_all a m ds ≡ read_all b m ds
  unfolding read_all
  all_same zero ds h = refl
  all_same (suc m) ds h = rw (same ds h) (first_same m ds h (all_same m) (b ds) (sound ds))

  quorum_same : (ds : List ℕ) → length ds ≤ length cs → read_quorum a ds ≡ read_quorum b ds
  quorum_same [] h = refl
  quorum_same (k ∷ []) h = refl
  quorum_same (k ∷ m ∷ ds) h = rw (all_same m ds (omega arith))

  parts_same : (m : Code) → read_parts a m cs ≡ read_parts b m cs
  parts_same (whole t) = refl
  parts_same (one f) = rw (same cs (omega arith))
  parts_same (two f) = rw (same cs (omega arith)) (two_same f (b cs) (sound cs))
  parts_same many = quorum_same cs (omega arith)
  parts_same none = refl

-- any bound that is at least the number of codes gives the same answer
within_enough : (k j n : ℕ) (cs : List ℕ) → length cs ≤ k → length cs ≤ j → read_within k n cs ≡ read_within j n cs
unfolding read_within
within_enough zero zero n cs h i = refl
within_enough zero (suc j) n [] h i = refl
within_enough zero (suc j) n (c ∷ cs) h i = absurd (omega arith)
within_enough (suc k) zero n [] h i = refl
within_enough (suc k) zero n (c ∷ cs) h i = absurd (omega arith)
within_enough (suc k) (suc j) n [] h i = refl
within_enough (suc k) (suc j) n (c ∷ cs) h i =
    parts_same n cs (read_within k n) (read_within j n) (λ ds l. within_enough k j n ds (omega arith) (omega arith)) (within-sound j n) (code_of n c)

-- how `read_front` goes, with no bound in sight
pub front_none : (n : ℕ) → read_front n [] ≡ stopped 3
unfolding read_within
front_none n = refl

pub front_step : (n c : ℕ) (cs : List ℕ) → read_front n (c ∷ cs) ≡ read_parts (read_front n) (code_of n c) cs
unfolding read_within
front_step n c cs =
    parts_same n cs (read_within (length cs) n) (read_front n) (λ ds l. within_enough (length cs) (length ds) n ds l (omega arith)) (λ ds. within-sound (length ds) n ds) (code_of n c)

-- What is read is the codes of the term, and then the rest.
pub front_sound : (n : ℕ) (cs : List ℕ) (t : Term) (rest : List ℕ) → read_front n cs ≡ found t rest → (cs ≡ codes t ++ rest) × NamesBelow n t
front_sound n cs t rest e = rw e at (within-sound (length cs) n cs)

pub code_name : (n i : ℕ) → i < 12 → i < n → code_of n i ≡ whole (name i)
unfolding code_of
code_name n i h j = simp (lt-ltb i 12 h, lt-ltb i n j)

pub code_project : (n : ℕ) (s : Side) → code_of n (project_code s) ≡ one (project s)
unfolding code_of
code_project n confidentiality = refl
code_project n integrity = refl

-- The codes of a term are read as that term, whatever follows.
mutual
  unfolding codes NamesBelow code_of read_all count

  pub front_codes : (n : ℕ) (t : Term) (rest : List ℕ) → NamesBelow n t → read_front n (codes t ++ rest) ≡ found t rest
  front_codes n (name i) rest h = front_step n i rest ∙ rw (code_name n i h.0 h.1)
  front_codes n top rest h = front_step n 0x20 rest
  front_codes n bottom rest h = front_step n 0x21 rest
  front_codes n (conj p q) rest h =
      front_step n 0x30 (codes p ++ codes q ++ rest) ∙ rw (append_assoc, front_codes n p (codes q ++ rest) h.0, front_codes n q rest h.1)
  front_codes n (disj p q) rest h =
      front_step n 0x31 (codes p ++ codes q ++ rest) ∙ rw (append_assoc, front_codes n p (codes q ++ rest) h.0, front_codes n q rest h.1)
  front_codes n (project s p) rest h = front_step n (project_code s) (codes p ++ rest) ∙ rw (code_project n s, front_codes n p rest h)
  front_codes n (quorum k ts) rest h =
      front_step n 0x32 (k ∷ count ts ∷ (codes_all ts ++ rest)) ∙ rw (h.0, all_codes n ts rest h.1)

  pub all_codes : (n : ℕ) (ts : Terms) (rest : List ℕ) → PartsBelow n ts → read_all (read_front n) (count ts) (codes_all ts ++ rest) ≡ found ts rest
  all_codes n nil rest h = refl
  all_codes n (cons t ts) rest h = rw (append_assoc, front_codes n t (codes_all ts ++ rest) h.0, all_codes n ts rest h.1)

-- Two terms whose codes begin the same list are the same term, and so are the rests.
pub codes_unique : (n : ℕ) (t u : Term) (rest last : List ℕ) → NamesBelow n t → NamesBelow n u → codes t ++ rest ≡ codes u ++ last → (t ≡ u) × (rest ≡ last)
codes_unique n t u rest last h i e =
    let p : found t rest ≡ found u last = sym (front_codes n t rest h) ∙ ap (read_front n) e ∙ front_codes n u last i in
    (cc, cc)

-- `term_length` is 1 to 64
pub length_true : (k : ℕ) → term_length k ≡ true ↔ ((1 ≤ k) × (k ≤ 64))
length_true k = (length_from (leb 1 k) (leb k 64) (leb-true 1 k) (leb-true k 64), λ h. simp (le-leb 1 k h.0, le-leb k 64 h.1))
  where
    length_from : {A B : Type 0} (a b : Bool) → (a ≡ true → A) → (b ≡ true → B) → (a && b) ≡ true → A × B
    length_from true true f g e = (f refl, g refl)
    length_from true false f g e = (f refl, g e)
    length_from false b f g e = (f e, g (cc))

-- within the length, the answer is what is read off the front
pub term_within : (n : ℕ) (cs : List ℕ) → 1 ≤ length cs → length cs ≤ 64 → read_term n cs ≡ all_read (read_front n cs)
unfolding read_term
term_within n cs a b = rw ((length_true (length cs)).1 (a, b))

-- the answer, by whether the length is 1 to 64
pub term_case : (n : ℕ) (cs : List ℕ) (P : Reading Term → Type 0)
    → (1 ≤ length cs → length cs ≤ 64 → P (all_read (read_front n cs))) → ((1 ≤ length cs → length cs ≤ 64 → ⊥) → P (refused 1)) → P (read_term n cs)
unfolding read_term
term_case n cs P f g = by (term_length (length cs)) refl
  where
    by : (b : Bool) → term_length (length cs) ≡ b → P (require b 1 (all_read (read_front n cs)))
    by true e = let l = (length_true (length cs)).0 e in f l.0 l.1
    by false e = g (λ a b. let h = (length_true (length cs)).1 (a, b) in let z : ◌≡◌ {A = ℕ} 0 1 = cc in omega arith)

all_read_lem : (r : Front Term) (t : Term) → all_read r ≡ accepted t → r ≡ found t []
all_read_lem (found u []) t e = cc
all_read_lem (found u (c ∷ rest)) t e = cc
all_read_lem (stopped k) t e = cc

-- A list of bytes is accepted as t exactly if it is the codes of t, at most 64, and each name is below n.
pub accepted_codes : (n : ℕ) (cs : List ℕ) (t : Term) → read_term n cs ≡ accepted t ↔ ((cs ≡ codes t) × NamesBelow n t × (length cs ≤ 64))
accepted_codes n cs t = (
  term_case n cs (λ a. a ≡ accepted t → (cs ≡ codes t) × NamesBelow n t × (length cs ≤ 64))
      (λ a b e. let s = front_sound n cs t [] (all_read_lem (read_front n cs) t e) in (rw append-nil at s.0, s.1, b))
      (λ _ e. absurd (let z : ◌≡◌ {A = ℕ} 0 1 = cc in omega arith)),
  λ h.
      let r : read_front n cs ≡ found t [] = ap (read_front n) (h.0 ∙ sym (append-nil (codes t))) ∙ front_codes n t [] h.1 in
      term_within n cs (rw h.0 (codes_some t)) h.2 ∙ ap all_read r,
)

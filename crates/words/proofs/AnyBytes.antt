-- Laws of the term that any bytes stand for: code by code, and that the bytes of a term stand for it. Assumes nothing.
use mathlib.Core.Path.{◌≡◌, refl, sym, ap, ◌∙◌, subst}
use mathlib.Core.Bool.{Bool, true, false, cond, ◌&&◌}
use mathlib.Core.List.{List, [], ◌∷◌, ◌++◌, append_assoc, append-nil}
use Prim.Native.Nat.{ℕ, zero, suc, ◌+◌, ◌≤◌, ◌<◌}
use native.Mathlib.Decide.{dec_lt}
use native.Mathlib.Numerals.{add-one}
use native.Mathlib.Omega.{arith}
use lib.Dec.{eqb, ltb}
use lib.ListN.{length, drop, get_or, length-append, length-drop, drop_of_length-le}
use lib.Seq.{drop-cons, drop-drop, drop-append_seam, get_or-drop}
use borrow.Author.Tests.{ltb-true, lt-ltb}
use Rattle.model.specs.Readings.{accepted}
use Rattle.model.specs.Terms.{Term, name, top, bottom, conj, disj, project, quorum, Terms, nil, cons, count, quorate, project_code, Code, whole, one, two, many, none, code_of, codes, codes_all, NamesBelow, PartsBelow, read_term}
use Rattle.model.proofs.Truth.{cond_case}
use Rattle.model.proofs.Reading.{code_name, code_project, accepted_codes}
use Rattle.words.specs.AnyBytes.{Taken, taken_all, no_code, take_quorum, take_parts, take_within, taken, term_in}

-- two takers of parts that agree on lists that are no longer than cs
module _ (cs : List ℕ) (a b : List ℕ → Taken) (same : (ds : List ℕ) → length ds ≤ length cs → a ds ≡ b ds) where
  all_same : (m : ℕ) (ds : List ℕ) → length ds ≤ length cs → taken_all a m ds ≡ taken_all b m ds
  unfolding taken_all
  all_same zero ds h = refl
  all_same (suc m) ds h = rw (same ds h, all_same m (drop (b ds).size ds) (omega (arith, length-drop (b ds).size ds)))

  quorum_same : (ds : List ℕ) → length ds ≤ length cs → take_quorum a ds ≡ take_quorum b ds
  quorum_same [] h = refl
  quorum_same (k ∷ []) h = refl
  quorum_same (k ∷ m ∷ ds) h = rw (all_same m ds (omega arith))

  parts_same : (m : Code) → take_parts a m cs ≡ take_parts b m cs
  parts_same (whole t) = refl
  parts_same (one f) = rw (same cs (omega arith))
  parts_same (two f) = rw (same cs (omega arith), same (drop (b cs).size cs) (omega (arith, length-drop (b cs).size cs)))
  parts_same many = quorum_same cs (omega arith)
  parts_same none = refl

-- any bound that is at least the number of bytes gives the same
within_enough : (k j : ℕ) (cs : List ℕ) → length cs ≤ k → length cs ≤ j → take_within k cs ≡ take_within j cs
unfolding take_within
within_enough zero zero cs h i = refl
within_enough zero (suc j) [] h i = refl
within_enough zero (suc j) (c ∷ cs) h i = absurd (omega arith)
within_enough (suc k) zero [] h i = refl
within_enough (suc k) zero (c ∷ cs) h i = absurd (omega arith)
within_enough (suc k) (suc j) [] h i = refl
within_enough (suc k) (suc j) (c ∷ cs) h i =
    parts_same cs (take_within k) (take_within j) (λ ds l. within_enough k j ds (omega arith) (omega arith)) (code_of 12 c)

-- how bytes are taken, with no bound in sight
pub taken_none : taken [] ≡ record { term = top; size = 0 }
unfolding take_within
taken_none = refl

pub taken_step : (c : ℕ) (cs : List ℕ) → taken (c ∷ cs) ≡ take_parts taken (code_of 12 c) cs
unfolding take_within
taken_step c cs = parts_same cs (take_within (length cs)) taken (λ ds l. within_enough (length cs) (length ds) ds l (omega arith)) (code_of 12 c)

-- no parts take no bytes; one part and m more take those of the one, and from where it ends those of the m
pub all_none : (cs : List ℕ) → taken_all taken 0 cs ≡ record { terms = nil; size = 0 }
unfolding taken_all
all_none cs = refl

pub all_step : (m : ℕ) (cs : List ℕ)
    → taken_all taken (suc m) cs ≡ record {
      terms = cons (taken cs).term (taken_all taken m (drop (taken cs).size cs)).terms;
      size = (taken cs).size + (taken_all taken m (drop (taken cs).size cs)).size;
    }
unfolding taken_all
all_step m cs = refl

-- as many parts as are asked for
pub all_count : (m : ℕ) (cs : List ℕ) → count (taken_all taken m cs).terms ≡ m
unfolding taken_all count
all_count zero cs = refl
all_count (suc m) cs = ap suc (all_count m (drop (taken cs).size cs))

-- a term that takes all of its codes
abbrev pub wholly : Term → Taken
wholly t = record { term = t; size = length (codes t) }

two_codes : (f : Term → Term → Term) (p q : Term) (rest : List ℕ)
    → taken (codes p ++ (codes q ++ rest)) ≡ wholly p → taken (codes q ++ rest) ≡ wholly q
    → take_parts taken (two f) ((codes p ++ codes q) ++ rest) ≡ record { term = f p q; size = suc (length (codes p ++ codes q)) }
two_codes f p q rest a b =
    rw (append_assoc, a, drop-append_seam, b, length-append)

-- The codes of a term stand for it, whatever follows; and so do those of terms one after another.
mutual
  unfolding codes NamesBelow code_of taken_all count

  pub taken-codes : (n : ℕ) (t : Term) (rest : List ℕ) → NamesBelow n t → taken (codes t ++ rest) ≡ wholly t
  taken-codes n (name i) rest h = taken_step i rest ∙ rw (code_name 12 i h.0 h.0)
  taken-codes n top rest h = taken_step 0x20 rest
  taken-codes n bottom rest h = taken_step 0x21 rest
  taken-codes n (conj p q) rest h =
      taken_step 0x30 ((codes p ++ codes q) ++ rest) ∙ two_codes conj p q rest (taken-codes n p (codes q ++ rest) h.0) (taken-codes n q rest h.1)
  taken-codes n (disj p q) rest h =
      taken_step 0x31 ((codes p ++ codes q) ++ rest) ∙ two_codes disj p q rest (taken-codes n p (codes q ++ rest) h.0) (taken-codes n q rest h.1)
  taken-codes n (project s p) rest h = taken_step (project_code s) (codes p ++ rest) ∙ rw (code_project 12 s, taken-codes n p rest h)
  taken-codes n (quorum k ts) rest h =
      let size : 3 + length (codes_all ts) ≡ length (codes (quorum k ts)) = omega arith in
      taken_step 0x32 (k ∷ count ts ∷ (codes_all ts ++ rest)) ∙ rw (h.0, all_codes n ts rest h.1) (ap (λ (z : ℕ). record { term = quorum k ts; size = z }) size)

  pub all_codes : (n : ℕ) (ts : Terms) (rest : List ℕ) → PartsBelow n ts → taken_all taken (count ts) (codes_all ts ++ rest) ≡ record { terms = ts; size = length (codes_all ts) }
  all_codes n nil rest h = refl
  all_codes n (cons t ts) rest h = rw (append_assoc, taken-codes n t (codes_all ts ++ rest) h.0, drop-append_seam, all_codes n ts rest h.1, length-append)

term_codes : (n : ℕ) (bytes : List ℕ) (t : Term) → bytes ≡ codes t → NamesBelow n t → term_in bytes ≡ t
term_codes n bytes t e below = ap (λ (cs : List ℕ). term_in cs) (e ∙ sym (append-nil (codes t))) ∙ ap (λ (x : Taken). x.term) (taken-codes n t [] below)

-- So does a list that is accepted as a term.
pub term_in_lem : (n : ℕ) (bytes : List ℕ) (t : Term) → read_term n bytes ≡ accepted t → term_in bytes ≡ t
term_in_lem n bytes t e = let h = (accepted_codes n bytes t).0 e in term_codes n bytes t h.0 h.1

-- ---- at places of the bytes

-- one part from a place on, and m more from where it ends
pub all_at : (bytes : List ℕ) (at m end : ℕ) → end ≡ at + (taken (drop at bytes)).size
    → taken_all taken (suc m) (drop at bytes) ≡ record {
      terms = cons (term_in (drop at bytes)) (taken_all taken m (drop end bytes)).terms;
      size = (taken (drop at bytes)).size + (taken_all taken m (drop end bytes)).size;
    }
all_at bytes at m end e =
    let seam : drop (taken (drop at bytes)).size (drop at bytes) ≡ drop end bytes = drop-drop (taken (drop at bytes)).size at bytes ∙ ap (λ (k : ℕ). drop k bytes) (sym e) in
    all_step m (drop at bytes) ∙ rw seam

pub taken_end : (bytes : List ℕ) (at : ℕ) → length bytes ≤ at → taken (drop at bytes) ≡ record { term = top; size = 0 }
taken_end bytes at h = ap (λ (cs : List ℕ). taken cs) (drop_of_length-le bytes {i = at} h) ∙ taken_none

module _ (bytes : List ℕ) (at : ℕ) (h : at < length bytes) where
  pub taken_at : (m : Code) → code_of 12 (get_or bytes at 0) ≡ m → taken (drop at bytes) ≡ take_parts taken m (drop (at + 1) bytes)
  taken_at m e = ap (λ (cs : List ℕ). taken cs) (drop-cons bytes at 0 h) ∙ taken_step (get_or bytes at 0) (drop (suc at) bytes) ∙ rw (add-one, e)

  taken_many : get_or bytes at 0 ≡ 0x32 → taken (drop at bytes) ≡ take_quorum taken (drop (at + 1) bytes)
  unfolding code_of
  taken_many e = taken_at many (ap (code_of 12) e)

  -- k and m are there
  after_code : at + 2 < length bytes → drop (at + 1) bytes ≡ get_or bytes (at + 1) 0 ∷ get_or bytes (at + 2) 0 ∷ drop (at + 3) bytes
  after_code l =
      let e : suc (at + 1) ≡ at + 2 = omega arith in
      let f : suc (at + 2) ≡ at + 3 = omega arith in
      drop-cons bytes (at + 1) 0 (omega arith)
      ∙ ap (λ (ds : List ℕ). get_or bytes (at + 1) 0 ∷ ds) (ap (λ (k : ℕ). drop k bytes) e ∙ drop-cons bytes (at + 2) 0 l ∙ ap (λ (k : ℕ). get_or bytes (at + 2) 0 ∷ drop k bytes) f)

  -- a quorum in range: its m parts stand from three bytes on
  pub quorum_at_lem : get_or bytes at 0 ≡ 0x32 → at + 2 < length bytes → quorate (get_or bytes (at + 1) 0) (get_or bytes (at + 2) 0) ≡ true
      → taken (drop at bytes) ≡ record {
        term = quorum (get_or bytes (at + 1) 0) (taken_all taken (get_or bytes (at + 2) 0) (drop (at + 3) bytes)).terms;
        size = 3 + (taken_all taken (get_or bytes (at + 2) 0) (drop (at + 3) bytes)).size;
      }
  quorum_at_lem e l q = taken_many e ∙ ap (λ (ds : List ℕ). take_quorum taken ds) (after_code l) ∙ rw q

  too_short : (ds : List ℕ) → length ds ≤ 1 → take_quorum taken ds ≡ no_code
  too_short [] l = refl
  too_short (k ∷ []) l = refl
  too_short (k ∷ m ∷ ds) l = absurd (omega arith)

  -- k or m is missing, or they are out of range: the byte is no code
  pub no_quorum_at : get_or bytes at 0 ≡ 0x32 → (ltb (at + 2) (length bytes) && quorate (get_or bytes (at + 1) 0) (get_or bytes (at + 2) 0)) ≡ false → taken (drop at bytes) ≡ no_code
  no_quorum_at e q = elim (dec_lt (at + 2) (length bytes)) [
    | yes l ↦ taken_many e ∙ ap (λ (ds : List ℕ). take_quorum taken ds) (after_code l) ∙ rw (rw (lt-ltb (at + 2) (length bytes) l) at q)
    | no l ↦ taken_many e ∙ too_short (drop (at + 1) bytes) (omega (arith, length-drop (at + 1) bytes))
  ]

-- ---- the names of a term are among its bytes

-- what a code makes of parts whose names are below m
abbrev CodeNames : ℕ → Code → Type 0
CodeNames m (whole t) = NamesBelow m t
CodeNames m (one f) = (t : Term) → NamesBelow m t → NamesBelow m (f t)
CodeNames m (two f) = (t u : Term) → NamesBelow m t → NamesBelow m u → NamesBelow m (f t u)
CodeNames m many = Unit {0}
CodeNames m none = Unit {0}

either_code : (m : ℕ) (b : Bool) (x y : Code) → CodeNames m x → CodeNames m y → CodeNames m (cond b x y)
either_code m true x y p q = p
either_code m false x y p q = q

code_names : (m c : ℕ) → (c < 12 → c < m) → CodeNames m (code_of 12 c)
unfolding code_of NamesBelow
code_names m c h =
    first (ltb c 12) refl _
    (either_code m (eqb c 0x20) _ _ tt
    (either_code m (eqb c 0x21) _ _ tt
    (either_code m (eqb c 0x30) _ _ (λ t u p q. (p, q))
    (either_code m (eqb c 0x31) _ _ (λ t u p q. (p, q))
    (either_code m (eqb c 0x32) _ _ tt
    (either_code m (eqb c 0x40) _ _ (λ t p. p) (either_code m (eqb c 0x41) _ _ (λ t p. p) tt)))))))
  where
    first : (b : Bool) → ltb c 12 ≡ b → (y : Code) → CodeNames m y → CodeNames m (cond b (cond b (whole (name c)) none) y)
    first true e y q = let l = ltb-true c 12 e in (l, h l)
    first false e y q = q

-- below m are the names among the first k of a list
abbrev NamesFirst : ℕ → ℕ → List ℕ → Type 0
NamesFirst m k cs = (j : ℕ) → j < k → j < length cs → get_or cs j 0 < 12 → get_or cs j 0 < m

takes_quorum : (cs : List ℕ) → 0 < (take_quorum taken cs).size
takes_quorum [] = omega arith
takes_quorum (k ∷ []) = omega arith
takes_quorum (k ∷ m ∷ cs) = cond_case (λ (x : Taken). 0 < x.size) (quorate k m) _ no_code (λ _. omega arith) (λ _. omega arith)

takes_code : (x : Code) (cs : List ℕ) → 0 < (take_parts taken x cs).size
takes_code (whole t) cs = omega arith
takes_code (one f) cs = omega arith
takes_code (two f) cs = omega arith
takes_code many cs = takes_quorum cs
takes_code none cs = omega arith

-- of a list without the first that are taken, the names are names of the list
names_after : (m a b k : ℕ) (cs : List ℕ) → k ≡ a + b → NamesFirst m k cs → NamesFirst m b (drop a cs)
names_after m a b k cs e h j l i n =
    let f = get_or-drop a cs j 0 in
    rw f (h (a + j) (omega arith) (omega (arith, length-drop a cs)) (rw f at n))

module _ (m : ℕ) (cs : List ℕ) (part : (ds : List ℕ) → length ds ≤ length cs → NamesFirst m (taken ds).size ds → NamesBelow m (taken ds).term) where
  all_names : (k : ℕ) (ds : List ℕ) → length ds ≤ length cs → NamesFirst m (taken_all taken k ds).size ds → PartsBelow m (taken_all taken k ds).terms
  unfolding taken_all NamesBelow
  all_names zero ds l h = tt
  all_names (suc k) ds l h =
      let a = (taken ds).size in
      (part ds l (λ j i. h j (omega arith)), all_names k (drop a ds) (omega (arith, length-drop a ds)) (names_after m a _ _ ds refl h))

  quorum_names : (c : ℕ) (ds : List ℕ) → length ds ≤ length cs → NamesFirst m (take_quorum taken ds).size (c ∷ ds) → NamesBelow m (take_quorum taken ds).term
  unfolding NamesBelow
  quorum_names c [] l = λ h. tt
  quorum_names c (k ∷ []) l = λ h. tt
  quorum_names c (k ∷ j ∷ ds) l =
      cond_case (λ (x : Taken). NamesFirst m x.size (c ∷ k ∷ j ∷ ds) → NamesBelow m x.term) (quorate k j) _ no_code
      (λ q h. (rw (all_count j ds) q, all_names j ds (omega arith) (names_after m 3 (taken_all taken j ds).size _ (c ∷ k ∷ j ∷ ds) refl h)))
      (λ _ h. tt)

  parts_names : (c : ℕ) (x : Code) → CodeNames m x → NamesFirst m (take_parts taken x cs).size (c ∷ cs) → NamesBelow m (take_parts taken x cs).term
  unfolding NamesBelow
  parts_names c (whole t) made h = made
  parts_names c (one f) made h = made (taken cs).term (part cs (omega arith) (λ j l b. h (suc j) (omega arith) (omega arith)))
  parts_names c (two f) made h =
      let a = (taken cs).size in
      made (taken cs).term (taken (drop a cs)).term
      (part cs (omega arith) (λ j l b. h (suc j) (omega arith) (omega arith)))
      (part (drop a cs) (omega (arith, length-drop a cs)) (names_after m (suc a) (taken (drop a cs)).size (take_parts taken (two f) cs).size (c ∷ cs) (omega arith) h))
  parts_names c many made h = quorum_names c cs (omega arith) h
  parts_names c none made h = tt

-- what is below m of the bytes that a term takes is so of its names
pub names-taken : (m k : ℕ) (cs : List ℕ) → length cs ≤ k → NamesFirst m (taken cs).size cs → NamesBelow m (taken cs).term
unfolding NamesBelow take_within
names-taken m zero [] few h = tt
names-taken m zero (c ∷ cs) few h = absurd (omega arith)
names-taken m (suc k) [] few h = tt
names-taken m (suc k) (c ∷ cs) few h =
    let e = taken_step c cs in
    let first = h 0 (rw e (takes_code (code_of 12 c) cs)) (omega arith) in
    subst (λ (x : Taken). NamesBelow m x.term) (sym e)
    (parts_names m cs (λ ds l. names-taken m k ds (omega arith)) c (code_of 12 c) (code_names m c first) (subst (λ (x : Taken). NamesFirst m x.size (c ∷ cs)) e h))

-- A term is held exactly where the principal that it means is held, and has its names. Assumes nothing.
use mathlib.Core.Path.{◌≡◌, refl, sym, ap, ap₂, ◌∙◌}
use mathlib.Core.Bool.{Bool, true, false, cond, ◌&&◌, ◌||◌, and-false, or_assoc, and-or_distrib_left}
use mathlib.Core.List.{List, [], ◌∷◌, ◌++◌, map}
use Prim.Native.Nat.{ℕ, zero, suc, ◌≤◌}
use native.Mathlib.Omega.{arith}
use lib.Dec.{leb}
use borrow.Author.Tests.{leb-true, le-leb, lt-leb}
use Rattle.model.specs.Sides.{Side, confidentiality, integrity}
use Rattle.model.specs.Terms.{Term, name, top, bottom, conj, disj, project, quorum, Terms, nil, cons, NamesBelow, PartsBelow, held, held_count}
use Rattle.model.proofs.Truth.{bool_ext, or_elim, or_left}
use Rattle.algebra.specs.Principals.{Principal, held_by, Named}
use Rattle.algebra.specs.Meaning.{boths, either_of, at_least, meaning, meanings}

-- ---- held

module _ (s : Side) (c : ℕ) where
  -- either of two lists
  either_append : (ps qs : List Principal) → held_by (either_of (ps ++ qs)) s c ≡ (held_by (either_of ps) s c || held_by (either_of qs) s c)
  unfolding held_by either_of
  either_append [] qs = refl
  either_append (p ∷ ps) qs = ap (λ b. held_by p s c || b) (either_append ps qs) ∙ sym (or_assoc (held_by p s c) (held_by (either_of ps) s c) (held_by (either_of qs) s c))

  -- p with each of a list
  either_both : (p : Principal) (ps : List Principal) → held_by (either_of (map (Principal.conj p) ps)) s c ≡ (held_by p s c && held_by (either_of ps) s c)
  unfolding held_by either_of
  either_both p [] = sym (and-false (held_by p s c))
  either_both p (q ∷ ps) =
      ap (λ b. (held_by p s c && held_by q s c) || b) (either_both p ps) ∙ sym (and-or_distrib_left (held_by p s c) (held_by q s c) (held_by (either_of ps) s c))

  -- at least k + 1: the first and at least k of the others, or at least k + 1 of the others
  at_least_step : (k : ℕ) (p : Principal) (ps : List Principal)
      → held_by (at_least (suc k) (p ∷ ps)) s c ≡ ((held_by p s c && held_by (at_least k ps) s c) || held_by (at_least (suc k) ps) s c)
  unfolding boths
  at_least_step k p ps =
      either_append (map (Principal.conj p) (boths k ps)) (boths (suc k) ps) ∙ ap (λ b. b || held_by (at_least (suc k) ps) s c) (either_both p (boths k ps))

-- likewise of their number
one_more : (k d : ℕ) (b : Bool) → ((b && leb k d) || leb (suc k) d) ≡ leb (suc k) (cond b (suc d) d)
one_more k d true = bool_ext (leb k d || leb (suc k) d) (leb (suc k) (suc d))
    (λ e. le-leb (suc k) (suc d) (or_elim (leb k d) (leb (suc k) d) (λ f. omega (arith, leb-true k d f)) (λ f. omega (arith, leb-true (suc k) d f)) e))
    (λ e. let l : k ≤ d = omega (arith, leb-true (suc k) (suc d) e) in or_left (leb (suc k) d) (le-leb k d l))
one_more k d false = refl

mutual
  unfolding held meaning held_by boths either_of

  pub meaning_held : (t : Term) (s : Side) (c : ℕ) → held_by (meaning t) s c ≡ held t s c
  meaning_held (name i) s c = refl
  meaning_held top s c = refl
  meaning_held bottom s c = refl
  meaning_held (conj p q) s c = ap₂ ◌&&◌ (meaning_held p s c) (meaning_held q s c)
  meaning_held (disj p q) s c = ap₂ ◌||◌ (meaning_held p s c) (meaning_held q s c)
  meaning_held (project confidentiality p) confidentiality c = meaning_held p confidentiality c
  meaning_held (project confidentiality p) integrity c = refl
  meaning_held (project integrity p) confidentiality c = refl
  meaning_held (project integrity p) integrity c = meaning_held p integrity c
  meaning_held (quorum k ts) s c = parts_held ts k s c

  parts_held : (ts : Terms) (k : ℕ) (s : Side) (c : ℕ) → held_by (at_least k (meanings ts)) s c ≡ leb k (held_count ts s c)
  parts_held nil zero s c = sym (le-leb 0 0 (omega arith))
  parts_held nil (suc k) s c = sym (lt-leb (suc k) 0 (omega arith))
  parts_held (cons t ts) zero s c = sym (le-leb 0 (held_count (cons t ts) s c) (omega arith))
  parts_held (cons t ts) (suc k) s c =
      at_least_step s c k (meaning t) (meanings ts)
      ∙ ap₂ ◌||◌ (ap₂ ◌&&◌ (meaning_held t s c) (parts_held ts k s c)) (parts_held ts (suc k) s c)
      ∙ one_more k (held_count ts s c) (held t s c)

-- the two sets of coalitions are one
pub meaning_marks : (t : Term) → held_by (meaning t) ≡ held t
meaning_marks t = λ i s c. meaning_held t s c i

-- A projection is held as its part is on its own side, and always on the other: what is so of both is so of it.
pub project_held : (s t : Side) (c : ℕ) (P : (Principal → Bool) → Type 0) → P (λ p. held_by p t c) → P (λ p. true) → P (λ p. held_by (Principal.project s p) t c)
unfolding held_by
project_held confidentiality confidentiality c P own off = own
project_held confidentiality integrity c P own off = off
project_held integrity confidentiality c P own off = off
project_held integrity integrity c P own off = own

-- ---- names

module _ (n : ℕ) where
  abbrev AllNamed : List Principal → Type 0
  AllNamed [] = Unit {0}
  AllNamed (p ∷ ps) = Named n p × AllNamed ps

  append_named : (ps qs : List Principal) → AllNamed ps → AllNamed qs → AllNamed (ps ++ qs)
  append_named [] qs h k = k
  append_named (p ∷ ps) qs h k = (h.0, append_named ps qs h.1 k)

  both_named : (p : Principal) (ps : List Principal) → Named n p → AllNamed ps → AllNamed (map (Principal.conj p) ps)
  unfolding Named
  both_named p [] h k = tt
  both_named p (q ∷ ps) h k = ((h, k.0), both_named p ps h k.1)

  boths_named : (k : ℕ) (ps : List Principal) → AllNamed ps → AllNamed (boths k ps)
  unfolding Named boths
  boths_named zero ps h = (tt, tt)
  boths_named (suc k) [] h = tt
  boths_named (suc k) (p ∷ ps) h =
      append_named (map (Principal.conj p) (boths k ps)) (boths (suc k) ps) (both_named p (boths k ps) h.0 (boths_named k ps h.1)) (boths_named (suc k) ps h.1)

  either_named : (ps : List Principal) → AllNamed ps → Named n (either_of ps)
  unfolding Named either_of
  either_named [] h = tt
  either_named (p ∷ ps) h = (h.0, either_named ps h.1)

mutual
  unfolding meaning NamesBelow Named

  pub meaning_named : (n : ℕ) (t : Term) → NamesBelow n t → Named n (meaning t)
  meaning_named n (name i) h = h
  meaning_named n top h = tt
  meaning_named n bottom h = tt
  meaning_named n (conj p q) h = (meaning_named n p h.0, meaning_named n q h.1)
  meaning_named n (disj p q) h = (meaning_named n p h.0, meaning_named n q h.1)
  meaning_named n (project s p) h = meaning_named n p h
  meaning_named n (quorum k ts) h = either_named n (boths k (meanings ts)) (boths_named n k (meanings ts) (parts_named n ts h.1))

  parts_named : (n : ℕ) (ts : Terms) → PartsBelow n ts → AllNamed n (meanings ts)
  parts_named n nil h = tt
  parts_named n (cons t ts) h = (meaning_named n t h.0, parts_named n ts h.1)

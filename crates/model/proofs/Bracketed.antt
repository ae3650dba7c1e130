-- Laws of the text with the fewest brackets (document 02, K1 and K4). Assumes nothing.
use Prim.Native.Nat.{ℕ, suc, ◌+◌, ◌*◌, ◌<◌, ◌≤◌}
use native.Mathlib.Omega.{arith}
use mathlib.Core.Path.{◌≡◌, refl, ap}
use mathlib.Core.List.{List, [], ◌∷◌, ◌++◌}
use lib.Dec.{ltb, leb}
use lib.ListN.{length, length-append}
use borrow.Author.Tests.{leb-true, le-leb, lt-leb}
use Rattle.model.specs.Terms.{Term, name, top, bottom, conj, disj, project, quorum, Terms, nil, cons, count, codes, codes_all, NamesBelow, PartsBelow}
use Rattle.model.specs.Texts.{Joiner, both, either, Tree, letter, star, low, bracket, signed, join, at_least, Trees, no_place, place, places, sign, joiner, decimal, flat, flat_all, join_terms, term, terms, join_rank, rank, Grammar, GrammarAll, at_most, fewest, fewest_all}
use Rattle.model.proofs.Truth.{cond_case}
use Rattle.model.proofs.Texts.{part_rank, part_rank_lem, join_codes, rank_most}

-- ---- a text in brackets where it needs them

at_most_term : (l : ℕ) (w : Tree) → term (at_most l w) ≡ term w
unfolding term
at_most_term l w = cond_case (λ (v : Tree). term v ≡ term w) (leb (rank w) l) w (bracket w) (λ _. refl) (λ _. refl)

at_most_grammar : (n l : ℕ) (w : Tree) → Grammar n w → Grammar n (at_most l w)
unfolding Grammar
at_most_grammar n l w g = cond_case (Grammar n) (leb (rank w) l) w (bracket w) (λ _. g) (λ _. g)

at_most-rank : (l : ℕ) (w : Tree) → rank (at_most l w) ≤ l
unfolding rank
at_most-rank l w = cond_case (λ (v : Tree). rank v ≤ l) (leb (rank w) l) w (bracket w) (λ e. leb-true (rank w) l e) (λ _. omega arith)

pub at_most_low : (l : ℕ) (w : Tree) → rank w ≤ l → at_most l w ≡ w
at_most_low l w h = rw (le-leb (rank w) l h)

pub at_most_high : (l : ℕ) (w : Tree) → l < rank w → at_most l w ≡ bracket w
at_most_high l w h = rw (lt-leb (rank w) l h)

-- ---- the fewest

pub fewest_join : (j : Joiner) (p q : Term) → fewest (join_terms j p q) ≡ join j (at_most (join_rank j) (fewest p)) (at_most (part_rank j) (fewest q))
unfolding fewest
fewest_join both p q = refl
fewest_join either p q = refl

-- it says the term, and is of the grammar
mutual
  unfolding term fewest

  pub fewest_term : (t : Term) → term (fewest t) ≡ t
  fewest_term (name i) = refl
  fewest_term top = refl
  fewest_term bottom = refl
  fewest_term (conj p q) = rw (at_most_term 1 (fewest p), at_most_term 0 (fewest q), fewest_term p, fewest_term q)
  fewest_term (disj p q) = rw (at_most_term 2 (fewest p), at_most_term 1 (fewest q), fewest_term p, fewest_term q)
  fewest_term (project s p) = rw (at_most_term 0 (fewest p), fewest_term p)
  fewest_term (quorum k ts) = rw (fewest_terms ts)

  fewest_terms : (ts : Terms) → terms (fewest_all ts) ≡ ts
  fewest_terms nil = refl
  fewest_terms (cons t ts) = rw (fewest_term t, fewest_terms ts)

-- as many places as parts
pub places_fewest : (ts : Terms) → places (fewest_all ts) ≡ count ts
unfolding places fewest count
places_fewest nil = refl
places_fewest (cons t ts) = ap suc (places_fewest ts)

join_grammar : (n : ℕ) (j : Joiner) (p q : Tree) → Grammar n p → Grammar n q → Grammar n (join j (at_most (join_rank j) p) (at_most (part_rank j) q))
unfolding Grammar
join_grammar n j p q g h =
    (at_most-rank (join_rank j) p, omega (arith, at_most-rank (part_rank j) q, part_rank_lem j), at_most_grammar n (join_rank j) p g, at_most_grammar n (part_rank j) q h)

mutual
  unfolding fewest Grammar NamesBelow

  pub fewest_grammar : (n : ℕ) (t : Term) → NamesBelow n t → Grammar n (fewest t)
  fewest_grammar n (name i) h = h
  fewest_grammar n top h = tt
  fewest_grammar n bottom h = tt
  fewest_grammar n (conj p q) h = join_grammar n both (fewest p) (fewest q) (fewest_grammar n p h.0) (fewest_grammar n q h.1)
  fewest_grammar n (disj p q) h = join_grammar n either (fewest p) (fewest q) (fewest_grammar n p h.0) (fewest_grammar n q h.1)
  fewest_grammar n (project s p) h = (at_most-rank 0 (fewest p), at_most_grammar n 0 (fewest p) (fewest_grammar n p h))
  fewest_grammar n (quorum k ts) h = (rw (places_fewest ts) h.0, fewest_grammars n ts h.1)

  fewest_grammars : (n : ℕ) (ts : Terms) → PartsBelow n ts → GrammarAll n (fewest_all ts)
  fewest_grammars n nil h = tt
  fewest_grammars n (cons t ts) h = (fewest_grammar n t h.0, fewest_grammars n ts h.1)

-- ---- at most three characters for each code, less two

bracket_long : (l m : ℕ) (w : Tree) → length (flat w) + 4 ≤ m → length (flat (at_most l w)) + 2 ≤ m
unfolding flat
bracket_long l m w h = cond_case (λ (v : Tree). length (flat v) + 2 ≤ m) (leb (rank w) l) w (bracket w) (λ _. omega arith) (λ _. rw (length-append (flat w) (0x29 ∷ [])) (omega arith))

join_long : (l : ℕ) (j : Joiner) (p q : Term) → length (flat (at_most (join_rank j) (fewest p))) + 2 ≤ 3 * length (codes p) → length (flat (at_most (part_rank j) (fewest q))) + 2 ≤ 3 * length (codes q)
    → length (flat (at_most l (fewest (join_terms j p q)))) + 2 ≤ 3 * length (codes (join_terms j p q))
unfolding flat
join_long l j p q h i =
    rw (fewest_join j p q, join_codes j p q, length-append (codes p) (codes q))
    (bracket_long l _ (join j (at_most (join_rank j) (fewest p)) (at_most (part_rank j) (fewest q)))
    (rw (length-append (flat (at_most (join_rank j) (fewest p))) (joiner j ∷ flat (at_most (part_rank j) (fewest q)))) (omega arith)))

-- a whole text has no brackets around it
whole_long : (w : Tree) → length (flat (at_most 2 w)) ≡ length (flat w)
whole_long w = ap (λ (v : Tree). length (flat v)) (at_most_low 2 w (rank_most w))

decimal_long : (k : ℕ) → length (decimal k) ≤ 2
decimal_long k = cond_case (λ (l : List ℕ). length l ≤ 2) (ltb k 10) _ _ (λ _. omega arith) (λ _. omega arith)

-- a quorum has at most six characters beside its places, for three codes beside its parts
quorum_long : (k m : ℕ) (ws : List ℕ) → length (decimal k ++ (0x3A ∷ (decimal m ++ (ws ++ 0x29 ∷ [])))) ≤ 6 + length ws
quorum_long k m ws =
    rw (length-append (decimal k) (0x3A ∷ (decimal m ++ (ws ++ 0x29 ∷ []))), length-append (decimal m) (ws ++ 0x29 ∷ []), length-append ws (0x29 ∷ []))
    (omega (arith, decimal_long k, decimal_long m))

mutual
  unfolding flat fewest codes rank

  part_long : (l : ℕ) (t : Term) → length (flat (at_most l (fewest t))) + 2 ≤ 3 * length (codes t)
  part_long l (name i) = rw (at_most_low l (letter i) (omega arith)) (omega arith)
  part_long l top = rw (at_most_low l star (omega arith)) (omega arith)
  part_long l bottom = rw (at_most_low l low (omega arith)) (omega arith)
  part_long l (conj p q) = join_long l both p q (part_long 1 p) (part_long 0 q)
  part_long l (disj p q) = join_long l either p q (part_long 2 p) (part_long 1 q)
  part_long l (project s p) =
      let i = part_long 0 p in
      rw (at_most_low l (signed s (at_most 0 (fewest p))) (omega arith), length-append (flat (at_most 0 (fewest p))) (sign s ∷ [])) (omega arith)
  part_long l (quorum k ts) =
      rw (at_most_low l (at_least k (fewest_all ts)) (omega arith))
      (omega (arith, quorum_long k (places (fewest_all ts)) (flat_all 0x28 (fewest_all ts)), places_long 0x28 ts))

  -- a place stands after a comma or a bracket
  places_long : (c : ℕ) (ts : Terms) → length (flat_all c (fewest_all ts)) ≤ 3 * length (codes_all ts)
  places_long c nil = omega arith
  places_long c (cons t ts) =
      let e : length (flat (at_most 2 (fewest t))) ≡ length (flat (fewest t)) = whole_long (fewest t) in
      rw (length-append (flat (fewest t)) (flat_all 0x2C (fewest_all ts)), length-append (codes t) (codes_all ts))
      (omega (arith, part_long 2 t, places_long 0x2C ts))

pub fewest_long : (t : Term) → length (flat (fewest t)) + 2 ≤ 3 * length (codes t)
fewest_long t = omega (arith, whole_long (fewest t), part_long 2 t)

-- No text that says a term has fewer brackets than the one that is written (document 02, K1 and K4). Assumes nothing.
use Prim.Native.Nat.{ℕ, ◌+◌, ◌-◌, ◌≤◌}
use native.Mathlib.Omega.{arith}
use mathlib.Core.Path.{◌≡◌, refl, ap, ◌∙◌}
use mathlib.Core.List.{List, [], ◌∷◌, ◌++◌}
use mathlib.Core.Bool.{true}
use lib.Dec.{ltb, leb}
use borrow.Author.Tests.{ne_eqb}
use Rattle.model.specs.Sides.{Side, confidentiality, integrity}
use Rattle.model.specs.Terms.{quorate, NamesBelow, PartsBelow}
use Rattle.model.specs.Texts.{Joiner, both, either, Tree, letter, star, low, bracket, signed, join, at_least, Trees, no_place, place, places, sign, joiner, decimal, flat, flat_all, term, terms, join_rank, rank, Grammar, GrammarAll, at_most, fewest, fewest_all}
use Rattle.model.proofs.Truth.{cond_case}
use Rattle.model.proofs.Reading.{quorate_true}
use Rattle.model.proofs.Texts.{part_rank, part_rank_lem, rank_most, count_terms}
use Rattle.model.proofs.Bracketed.{at_most_low, fewest_join, fewest_grammar}
use Rattle.requests.specs.Notation.{brackets_in}

-- pairs of brackets; a quorum has one of its own
unfoldable mutual
  pairs : Tree → ℕ
  pairs (letter i) = 0
  pairs star = 0
  pairs low = 0
  pairs (bracket w) = 1 + pairs w
  pairs (signed s w) = pairs w
  pairs (join j p q) = pairs p + pairs q
  pairs (at_least k ws) = 1 + pairs_all ws

  pairs_all : Trees → ℕ
  pairs_all no_place = 0
  pairs_all (place w ws) = pairs w + pairs_all ws

brackets_append : (s t : List ℕ) → brackets_in (s ++ t) ≡ brackets_in s + brackets_in t
unfolding brackets_in
brackets_append [] t = omega arith
brackets_append (c ∷ s) t = rw (brackets_append s t) (omega arith)

-- no letter, sign or joiner is a bracket
letter_plain : (i : ℕ) → brackets_in ((0x61 + i) ∷ []) ≡ 0
unfolding brackets_in
letter_plain i = rw (ne_eqb (0x61 + i) 0x28 (λ e. omega arith), ne_eqb (0x61 + i) 0x29 (λ e. omega arith))

sign-plain : (s : Side) → brackets_in (sign s ∷ []) ≡ 0
unfolding brackets_in
sign-plain confidentiality = refl
sign-plain integrity = refl

joiner-plain : (j : Joiner) → brackets_in (joiner j ∷ []) ≡ 0
unfolding brackets_in
joiner-plain both = refl
joiner-plain either = refl

decimal-plain : (k : ℕ) → brackets_in (decimal k) ≡ 0
unfolding brackets_in
decimal-plain k =
    cond_case (λ (l : List ℕ). brackets_in l ≡ 0) (ltb k 10) ((0x30 + k) ∷ []) (0x31 ∷ (0x30 + (k - 10)) ∷ [])
    (λ _. rw (ne_eqb (0x30 + k) 0x28 (λ e. omega arith), ne_eqb (0x30 + k) 0x29 (λ e. omega arith)))
    (λ _. rw (ne_eqb (0x30 + (k - 10)) 0x28 (λ e. omega arith), ne_eqb (0x30 + (k - 10)) 0x29 (λ e. omega arith)))

-- the character before the first place, if there is one
unfoldable before : ℕ → Trees → List ℕ
before c no_place = []
before c (place w ws) = c ∷ []

comma_plain : (ws : Trees) → brackets_in (before 0x2C ws) ≡ 0
unfolding brackets_in before
comma_plain no_place = refl
comma_plain (place w ws) = refl

-- a quorum in range has a place, and so its opening bracket
opening_one : (k : ℕ) (ws : Trees) → quorate k (places ws) ≡ true → brackets_in (before 0x28 ws) ≡ 1
unfolding brackets_in before places
opening_one k no_place q = let h = quorate_true k 0 q in absurd (omega (arith, h.0, h.1))
opening_one k (place w ws) q = refl

-- the characters of a text that are brackets: two for each pair
mutual
  unfolding flat pairs brackets_in before Grammar

  brackets_flat : (n : ℕ) (w : Tree) → Grammar n w → brackets_in (flat w) ≡ pairs w + pairs w
  brackets_flat n (letter i) g = letter_plain i
  brackets_flat n star g = refl
  brackets_flat n low g = refl
  brackets_flat n (bracket w) g = let e = brackets_flat n w g in rw (brackets_append (flat w) (0x29 ∷ []), e) (omega arith)
  brackets_flat n (signed s w) g = let e = brackets_flat n w g.1 in rw (brackets_append (flat w) (sign s ∷ []), e, sign-plain s) (omega arith)
  brackets_flat n (join j p q) g =
      let e = brackets_flat n p g.2 in
      let f = brackets_flat n q g.3 in
      brackets_append (flat p) (joiner j ∷ flat q) ∙ rw (brackets_append (joiner j ∷ []) (flat q), e, f, joiner-plain j) (omega arith)
  brackets_flat n (at_least k ws) g =
      let e = brackets_all n 0x28 ws g.1 in
      rw (brackets_append (decimal k) (0x3A ∷ (decimal (places ws) ++ (flat_all 0x28 ws ++ 0x29 ∷ []))), brackets_append (decimal (places ws)) (flat_all 0x28 ws ++ 0x29 ∷ []), brackets_append (flat_all 0x28 ws) (0x29 ∷ []))
      (omega (arith, decimal-plain k, decimal-plain (places ws), e, opening_one k ws g.0))

  brackets_all : (n c : ℕ) (ws : Trees) → GrammarAll n ws → brackets_in (flat_all c ws) ≡ brackets_in (before c ws) + (pairs_all ws + pairs_all ws)
  brackets_all n c no_place g = refl
  brackets_all n c (place w ws) g =
      let e = brackets_flat n w g.0 in
      let f = brackets_all n 0x2C ws g.1 in
      rw (brackets_append (flat w) (flat_all 0x2C ws)) (omega (arith, e, f, comma_plain ws))

at_most-pairs : (l : ℕ) (w : Tree) → pairs (at_most l w) ≤ 1 + pairs w
unfolding pairs
at_most-pairs l w = cond_case (λ (v : Tree). pairs v ≤ 1 + pairs w) (leb (rank w) l) w (bracket w) (λ _. omega arith) (λ _. omega arith)

whole_pairs : (w : Tree) → pairs (at_most 2 w) ≡ pairs w
whole_pairs w = ap pairs (at_most_low 2 w (rank_most w))

-- every tree that says the term has at least as many
mutual
  unfolding term fewest rank pairs Grammar

  pairs_least : (n l : ℕ) (w : Tree) → Grammar n w → rank w ≤ l → pairs (at_most l (fewest (term w))) ≤ pairs w
  pairs_least n l (letter i) g h = rw (at_most_low l (letter i) h) (omega arith)
  pairs_least n l star g h = rw (at_most_low l star h) (omega arith)
  pairs_least n l low g h = rw (at_most_low l low h) (omega arith)
  pairs_least n l (bracket w) g h = omega (arith, pairs_least n 2 w g (rank_most w), whole_pairs (fewest (term w)), at_most-pairs l (fewest (term w)))
  pairs_least n l (signed s w) g h = rw (at_most_low l (signed s (at_most 0 (fewest (term w)))) h) (pairs_least n 0 w g.1 g.0)
  pairs_least n l (join j p q) g h =
      rw (fewest_join j (term p) (term q), at_most_low l (join j (at_most (join_rank j) (fewest (term p))) (at_most (part_rank j) (fewest (term q)))) h)
      (omega (arith, pairs_least n (join_rank j) p g.2 g.0, pairs_least n (part_rank j) q g.3 (omega (arith, g.1, part_rank_lem j))))
  pairs_least n l (at_least k ws) g h = rw (at_most_low l (at_least k (fewest_all (terms ws))) h) (omega (arith, pairs_all_least n ws g.1))

  pairs_all_least : (n : ℕ) (ws : Trees) → GrammarAll n ws → pairs_all (fewest_all (terms ws)) ≤ pairs_all ws
  pairs_all_least n no_place g = omega arith
  pairs_all_least n (place w ws) g =
      omega (arith, pairs_least n 2 w g.0 (rank_most w), whole_pairs (fewest (term w)), pairs_all_least n ws g.1)

-- a tree's names are those of its term
mutual
  unfolding term Grammar NamesBelow

  pub tree_names : (n : ℕ) (w : Tree) → Grammar n w → NamesBelow n (term w)
  tree_names n (letter i) g = g
  tree_names n star g = tt
  tree_names n low g = tt
  tree_names n (bracket w) g = tree_names n w g
  tree_names n (signed s w) g = tree_names n w g.1
  tree_names n (join both p q) g = (tree_names n p g.2, tree_names n q g.3)
  tree_names n (join either p q) g = (tree_names n p g.2, tree_names n q g.3)
  tree_names n (at_least k ws) g = (rw (count_terms ws) g.0, trees_names n ws g.1)

  trees_names : (n : ℕ) (ws : Trees) → GrammarAll n ws → PartsBelow n (terms ws)
  trees_names n no_place g = tt
  trees_names n (place w ws) g = (tree_names n w g.0, trees_names n ws g.1)

pub fewest_least : (n : ℕ) (w : Tree) → Grammar n w → brackets_in (flat (fewest (term w))) ≤ brackets_in (flat w)
fewest_least n w g =
    let h = fewest_grammar n (term w) (tree_names n w g) in
    omega (arith, brackets_flat n (fewest (term w)) h, brackets_flat n w g, whole_pairs (fewest (term w)), pairs_least n 2 w g (rank_most w))

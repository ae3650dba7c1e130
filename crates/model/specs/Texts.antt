-- Document 02, K1, "A written notation", with the quorums of K4: the texts, as trees, the term that each says, and the one with the fewest brackets.
-- Assumes nothing: these are definitions.
use Rattle.std.specs.Prelude.{ℕ, suc, ◌+◌, ◌-◌, ◌<◌, ◌≤◌, ◌≡◌, true, cond, List, [], ◌∷◌, ◌++◌, ltb, leb}
use Rattle.model.specs.Sides.{Side, confidentiality, integrity}
use Rattle.model.specs.Terms.{Term, name, top, bottom, conj, disj, project, quorum, Terms, nil, cons, quorate}

-- & joins both of two parts, | either of them
pub data Joiner : Type 0 where
  both : Joiner
  either : Joiner

-- A text: a letter for a name, * and _, a text in round brackets, > or < after a text, two texts joined by & or |; and at least k of some texts, a quorum.
mutual
  pub data Tree : Type 0 where
    letter : ℕ → Tree
    star : Tree
    low : Tree
    bracket : Tree → Tree
    signed : Side → Tree → Tree
    join : Joiner → Tree → Tree → Tree
    at_least : ℕ → Trees → Tree

  -- the places of a quorum, the first one first
  pub data Trees : Type 0 where
    no_place : Trees
    place : Tree → Trees → Trees

unfoldable pub places : Trees → ℕ
places no_place = 0
places (place w ws) = suc (places ws)

-- > is the see side, < the change side
abbrev pub sign : Side → ℕ
sign confidentiality = 0x3E
sign integrity = 0x3C

abbrev pub joiner : Joiner → ℕ
joiner both = 0x26
joiner either = 0x7C

-- a number below 20 in decimal, without a leading zero
abbrev pub decimal : ℕ → List ℕ
decimal k = cond (ltb k 10) ((0x30 + k) ∷ []) (0x31 ∷ (0x30 + (k - 10)) ∷ [])

-- The characters of a text; the names are a to l. A quorum is k, a colon, m, and its m places in brackets, with commas between them.
unfoldable mutual
  pub flat : Tree → List ℕ
  flat (letter i) = (0x61 + i) ∷ []
  flat star = 0x2A ∷ []
  flat low = 0x5F ∷ []
  flat (bracket w) = 0x28 ∷ flat w ++ 0x29 ∷ []
  flat (signed s w) = flat w ++ sign s ∷ []
  flat (join j p q) = flat p ++ joiner j ∷ flat q
  flat (at_least k ws) = decimal k ++ (0x3A ∷ (decimal (places ws) ++ (flat_all 0x28 ws ++ 0x29 ∷ [])))

  -- the first after c, which is an opening bracket, and each later one after a comma
  pub flat_all : ℕ → Trees → List ℕ
  flat_all c no_place = []
  flat_all c (place w ws) = c ∷ flat w ++ flat_all 0x2C ws

-- The term that a text says. Brackets only group; the last of the signs > and < is the outermost.
abbrev pub join_terms : Joiner → Term → Term → Term
join_terms both p q = conj p q
join_terms either p q = disj p q

unfoldable mutual
  pub term : Tree → Term
  term (letter i) = name i
  term star = top
  term low = bottom
  term (bracket w) = term w
  term (signed s w) = project s (term w)
  term (join j p q) = join_terms j (term p) (term q)
  term (at_least k ws) = quorum k (terms ws)

  pub terms : Trees → Terms
  terms no_place = nil
  terms (place w ws) = cons (term w) (terms ws)

-- An atom, a quorum too, is of rank 0, parts joined by & are of rank 1, parts joined by | of rank 2.
abbrev pub join_rank : Joiner → ℕ
join_rank both = 1
join_rank either = 2

unfoldable pub rank : Tree → ℕ
rank (letter i) = 0
rank star = 0
rank low = 0
rank (bracket w) = 0
rank (signed s w) = 0
rank (join j p q) = join_rank j
rank (at_least k ws) = 0

-- The text is of the language, for n names: > and < stand after an atom; both-lists are of atoms and either-lists of both-lists; and both joiners
-- group to the left, so that the right one of two parts is of lower rank than their list. A quorum's k and m are in range, and each place has an either-list.
unfoldable mutual
  pub Grammar : ℕ → Tree → Type 0
  Grammar n (letter i) = (i < 12) × (i < n)
  Grammar n star = Unit {0}
  Grammar n low = Unit {0}
  Grammar n (bracket w) = Grammar n w
  Grammar n (signed s w) = (rank w ≤ 0) × Grammar n w
  Grammar n (join j p q) = (rank p ≤ join_rank j) × (rank q < join_rank j) × Grammar n p × Grammar n q
  Grammar n (at_least k ws) = (quorate k (places ws) ≡ true) × GrammarAll n ws

  pub GrammarAll : ℕ → Trees → Type 0
  GrammarAll n no_place = Unit {0}
  GrammarAll n (place w ws) = Grammar n w × GrammarAll n ws

-- a text in brackets where its rank is over l
abbrev pub at_most : ℕ → Tree → Tree
at_most l w = cond (leb (rank w) l) w (bracket w)

-- The text that says a term with the fewest brackets. Neither a quorum nor its parts need any.
unfoldable mutual
  pub fewest : Term → Tree
  fewest (name i) = letter i
  fewest top = star
  fewest bottom = low
  fewest (conj p q) = join both (at_most 1 (fewest p)) (at_most 0 (fewest q))
  fewest (disj p q) = join either (at_most 2 (fewest p)) (at_most 1 (fewest q))
  fewest (project s p) = signed s (at_most 0 (fewest p))
  fewest (quorum k ts) = at_least k (fewest_all ts)

  pub fewest_all : Terms → Trees
  fewest_all nil = no_place
  fewest_all (cons t ts) = place (fewest t) (fewest_all ts)

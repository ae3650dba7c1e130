-- Factorization and subtraction (source document 000, Definitions 9 to 11), and the gap of document 02, K6, in the algebra.
-- The thesis takes them in a context of delegations and a pc. Document 02's gap is static, without grants: here the context is `[]`. Its coalitions are of the
-- job's names, and so are p and q, but what is least or weakest is so among all principals. The thesis's Lemma 3 subtracts voices, a side at a time: that
-- comes to the voice of the gap. Assumes nothing: these are definitions.
use Rattle.std.specs.Prelude.{ℕ, ◌^◌, ◌≤◌, ◌≡◌, ◌↔◌, Bool, true, map}
use mathlib.Core.List.{[]}
use Rattle.model.specs.Sides.{Side, confidentiality, integrity}
use Rattle.model.specs.Coalitions.{member, those}
use Rattle.model.specs.Terms.{Term, NamesBelow, held}
use Rattle.model.specs.Grants.{gap, spoken}
use Rattle.model.specs.Meanings.{Agree}
use Rattle.model.specs.Comparing.{all_of}
use Rattle.algebra.specs.Principals.{Principal, bottom, conj, disj, project, held_by, Named}
use Rattle.algebra.specs.Meaning.{either_of, meaning}
use Rattle.algebra.specs.Algebra.{ActsFor, Same, on_side, voice_of}

-- of n names, the members of coalition c, together
abbrev pub members : ℕ → ℕ → Principal
members n c = meaning (all_of (those (λ i. member i c) 0 n))

-- either of the coalitions at which f holds
abbrev pub either_where : ℕ → (ℕ → Bool) → Principal
either_where n f = either_of (map (members n) (those f 0 (2 ^ n)))

-- The gap of p and q: on each side, either of the coalitions that hold it.
unfoldable pub gap_of : ℕ → Principal → Principal → Principal
gap_of n p q =
    conj
    (project confidentiality (either_where n (gap n (held_by p) (held_by q) confidentiality)))
    (project integrity (either_where n (gap n (held_by p) (held_by q) integrity)))

-- d's integrity, as confidentiality and as integrity
unfoldable pub as_both : Principal → Principal
as_both d = conj (project confidentiality (on_side integrity d)) (project integrity (on_side integrity d))

-- Definition 9: q is `shared` and `rest` together, and p acts for what is shared.
pub record Factorization (p q shared rest : Principal) : Type 0 where
  pub whole : Same [] q (conj shared rest)
  pub has : ActsFor [] p shared

-- Definition 10: no factorization shares more, or leaves less.
pub record MinimalFactorization (p q shared rest : Principal) : Type 0 where
  pub factors : Factorization p q shared rest
  pub greatest : (x y : Principal) → Factorization p q x y → ActsFor [] shared x
  pub least : (x y : Principal) → Factorization p q x y → ActsFor [] y rest

-- The claims. Each is the promise of a function of module `gap`.

-- The gap is held where document 02's is, on each side, at every coalition of the n names.
abbrev pub GapIsHeld : Type 0
GapIsHeld = (n : ℕ) (p q : Principal) → Agree n (held_by (gap_of n p q)) (gap n (held_by p) (held_by q))

-- It is the weakest principal that together with p acts for q.
abbrev pub GapIsWeakest : Type 0
GapIsWeakest = (n : ℕ) → n ≤ 12 → (p q r : Principal) → Named n p → Named n q → ActsFor [] (conj p r) q ↔ ActsFor [] r (gap_of n p q)

-- It is q - p, Definition 11: the rest of the minimal factorization, which shares either of p and q.
abbrev pub GapIsSubtraction : Type 0
GapIsSubtraction = (n : ℕ) → n ≤ 12 → (p q : Principal) → Named n p → Named n q → MinimalFactorization p q (disj p q) (gap_of n p q)

-- As the thesis adds to Definition 10: p acts for q exactly if nothing is left, and exactly if p acts for what is left.
pub record NothingLeft (n : ℕ) (p q : Principal) : Type 0 where
  pub none : ActsFor [] p q ↔ ActsFor [] bottom (gap_of n p q)
  pub own : ActsFor [] p q ↔ ActsFor [] p (gap_of n p q)

abbrev pub NoGap : Type 0
NoGap = (n : ℕ) → n ≤ 12 → (p q : Principal) → Named n p → Named n q → NothingLeft n p q

-- A grant of p and q labelled d is spoken exactly if d's integrity acts for the voice of their gap,
abbrev pub SpokenIsActsForGap : Type 0
SpokenIsActsForGap =
    (n : ℕ) → n ≤ 12 → (p q d : Term) → NamesBelow n p → NamesBelow n q → NamesBelow n d
    → (spoken n (held p) (held q) (held d) ≡ true) ↔ ActsFor [] (project integrity (meaning d)) (voice_of (gap_of n (meaning p) (meaning q)))

-- exactly if, for each side, it acts for the gap of the voices of p's and q's projections (Lemma 3),
abbrev pub SpokenSideBySide : Type 0
SpokenSideBySide =
    (n : ℕ) → n ≤ 12 → (p q d : Term) → NamesBelow n p → NamesBelow n q → NamesBelow n d
    → (spoken n (held p) (held q) (held d) ≡ true)
    ↔ ((s : Side) → ActsFor [] (project integrity (meaning d)) (gap_of n (voice_of (project s (meaning p))) (voice_of (project s (meaning q)))))

-- and exactly if p, together with d's integrity as both, acts for q.
abbrev pub SpokenIsActingTogether : Type 0
SpokenIsActingTogether =
    (n : ℕ) (p q d : Term) → NamesBelow n p → NamesBelow n q → NamesBelow n d
    → (spoken n (held p) (held q) (held d) ≡ true) ↔ ActsFor [] (conj (meaning p) (as_both (meaning d))) (meaning q)

-- The voice of q acts for the voice of the gap: what the voice spoke, the gap speaks.
abbrev pub VoiceActsForGap : Type 0
VoiceActsForGap = (n : ℕ) → n ≤ 12 → (p q : Principal) → Named n p → Named n q → ActsFor [] (voice_of q) (voice_of (gap_of n p q))

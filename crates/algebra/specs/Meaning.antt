-- The principal that a term means (document 02, K4): a quorum of k means either of the boths of k of its parts, and all else means itself.
-- Assumes nothing: these are definitions.
use Rattle.std.specs.Prelude.{ℕ, zero, suc, List, [], ◌∷◌, ◌++◌, map}
use Rattle.model.specs.Terms.{Term, name, top, bottom, conj, disj, project, quorum, Terms, nil, cons}
use Rattle.algebra.specs.Principals.{Principal}

-- the boths of k of these, by place: of the first with k - 1 of the others, then of k of the others; of none of them, the weakest
unfoldable pub boths : ℕ → List Principal → List Principal
boths zero ps = Principal.bottom ∷ []
boths (suc k) [] = []
boths (suc k) (p ∷ ps) = map (Principal.conj p) (boths k ps) ++ boths (suc k) ps

-- either of these; of none, the strongest
unfoldable pub either_of : List Principal → Principal
either_of [] = Principal.top
either_of (p ∷ ps) = Principal.disj p (either_of ps)

-- at least k of these
abbrev pub at_least : ℕ → List Principal → Principal
at_least k ps = either_of (boths k ps)

unfoldable mutual
  pub meaning : Term → Principal
  meaning (name i) = Principal.name i
  meaning top = Principal.top
  meaning bottom = Principal.bottom
  meaning (conj p q) = Principal.conj (meaning p) (meaning q)
  meaning (disj p q) = Principal.disj (meaning p) (meaning q)
  meaning (project s p) = Principal.project s (meaning p)
  meaning (quorum k ts) = at_least k (meanings ts)

  pub meanings : Terms → List Principal
  meanings nil = []
  meanings (cons t ts) = meaning t ∷ meanings ts

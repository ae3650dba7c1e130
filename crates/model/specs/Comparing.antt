-- Two sets of sound coalitions compared: the first that one has and the other lacks, and the question that it alone can refute (document 01, "Extract").
-- Assumes nothing: these are definitions.
use Rattle.std.specs.Prelude.{ℕ, true, not, List, [], ◌∷◌}
use Rattle.model.specs.Sides.{Side, confidentiality}
use Rattle.model.specs.Readings.{Reading, accepted, and_then}
use Rattle.model.specs.Coalitions.{member, Marks, those}
use Rattle.model.specs.Terms.{Term, name, top, bottom, conj, disj, project}
use Rattle.model.specs.Grants.{read_under}
use Rattle.model.specs.Ledgers.{read_ledger}
use Rattle.model.specs.Questions.{Verdict, holds, refuted, judge, sound_under}

-- all of these names
unfoldable pub all_of : List ℕ → Term
all_of [] = bottom
all_of (i ∷ []) = name i
all_of (i ∷ j ∷ l) = conj (name i) (all_of (j ∷ l))

-- any of these names
unfoldable pub any_of : List ℕ → Term
any_of [] = top
any_of (i ∷ []) = name i
any_of (i ∷ j ∷ l) = disj (name i) (any_of (j ∷ l))

-- does p act for q
pub record Question : Type 0 where
  pub p : Term
  pub q : Term

-- the question that coalition c alone can refute, and on side s alone: its members for the other names
unfoldable pub question : ℕ → Side → ℕ → Question
question n s c = record {
  p = project s (all_of (those (λ i. member i c) 0 n));
  q = project s (any_of (those (λ i. not (member i c)) 0 n));
}

-- the first side and coalition that is marked in S and not in T refutes that each one of S is one of T
unfoldable pub missing : ℕ → Marks → Marks → Verdict
missing n S T = judge n (λ s c. true) S T

-- the question of the coalition that refutes, or another
unfoldable pub showing : ℕ → Verdict → Question → Question
showing n (refuted s c) other = question n s c
showing n holds other = other

-- Of two sets that differ, the question of the first that T lacks, else of the first that S lacks.
unfoldable pub telling : ℕ → Marks → Marks → Question
telling n S T = showing n (missing n S T) (showing n (missing n T S) (question n confidentiality 0))

-- two ledgers, a label and a day
unfoldable pub witness : List ℕ → List ℕ → List ℕ → ℕ → Reading Question
witness a b label day =
    and_then (read_ledger a)
    (λ l. and_then (read_ledger b)
    (λ m. and_then (read_under l.names label day)
    (λ u. accepted (telling l.names (sound_under l u) (sound_under m u)))))

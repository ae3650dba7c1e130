-- The loop's invariant: the verdict on the coalitions before row g, none of which refutes on the see side, the sieve keeping what it kept.
use Prim.Native.Nat.{◌*◌, ◌≤◌}
use mathlib.Core.Path.{◌≡◌}
use Rattle.model.specs.Sides.{confidentiality}
use Rattle.model.specs.Coalitions.{Marks, nowhere, lowest}
use Rattle.words.specs.AnyBytes.{term_in}
use Rattle.words.specs.Evaluation.{row_count}
use Rattle.questions.specs.Searching.{verdict_of, refuters_of, found_to}
use Rattle.questions.proofs.first_refuter.Given as goal

abbrev pub invariant-loop-g : goal.invariant-loop-g
invariant-loop-g g l =
    (l.g ≤ row_count l.n)
    × ((T : Marks) → g.S.Sieve.keeps l.initial.sieve T →
    (lowest (refuters_of l.relation l.n T (term_in l.p) (term_in l.q) confidentiality) (256 * l.g) ≡ nowhere)
    × (verdict_of l.found ≡ found_to (refuters_of l.relation l.n T (term_in l.p) (term_in l.q)) (256 * l.g))
    × g.S.Sieve.keeps l.sieve T)

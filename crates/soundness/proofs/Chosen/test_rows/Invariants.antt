-- The loop's invariant: the rows of those that keep the grants before grant k whose bit is set, and how many of these were tested.
use Prim.Native.Nat.{◌≤◌}
use Rattle.model.specs.Coalitions.{Marks}
use Rattle.words.specs.FourWords.{RowsAt}
use Rattle.soundness.specs.Testing.{TestedTo}
use Rattle.soundness.proofs.Chosen.test_rows.Given as goal

abbrev pub invariant-loop-k : goal.invariant-loop-k
invariant-loop-k l =
    (l.tested ≤ l.k) × ((f : Marks) → RowsAt f l.g l.initial.rows → TestedTo l.self.ledger.now l.k l.self.bits f l.g (record { tested = l.tested; rows = l.rows }))

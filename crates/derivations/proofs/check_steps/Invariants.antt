-- The loop's invariant: the answer for the steps from k on is the answer for all.
use Rattle.std.specs.Prelude.{Bool}
use mathlib.Core.Path.{◌≡◌}
use Rattle.model.specs.Grants.{Grant}
use Rattle.model.specs.Ledgers.{Ledger}
use Rattle.model.specs.Derivations.{check_steps, step_count}
use Rattle.derivations.specs.Steps.{BookOf}
use Rattle.derivations.proofs.Checking.{steps_from}
use Rattle.derivations.proofs.check_steps.Given as goal

abbrev pub invariant-loop-k : goal.invariant-loop-k
invariant-loop-k v =
    (l : Ledger) (f : Grant → Bool) → BookOf v.book.ledger.now v.book.sizes v.book.counted l f → steps_from l f v.book.derivation.now v.k-counter ≡ check_steps l f v.book.derivation.now 0 (step_count v.book.derivation.now)

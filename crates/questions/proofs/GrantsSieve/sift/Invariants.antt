-- The loop's invariant: what is asked stays, and what is left keeps the grants before grant k that count.
use mathlib.Core.Path.{◌≡◌}
use Prim.Native.Nat.{◌≤◌}
use Rattle.model.specs.Coalitions.{Marks}
use Rattle.counting.specs.Counted.{counted_in}
use Rattle.soundness.proofs.Steps.{keep_first}
use Rattle.questions.specs.Sieving.{SiftedTo, counts_asked}
use Rattle.questions.proofs.GrantsSieve.sift.Given as goal

abbrev pub invariant-loop-k : goal.invariant-loop-k
invariant-loop-k l =
    let a = l.initial.self.asked in
    (l.self.asked ≡ a)
    × (l.k ≤ a.sizes.grants)
    × (a.sizes.grants ≤ 64 → (f : Marks) → SiftedTo (counts_asked a) f l.g l.initial.self.known l.initial.left
    → SiftedTo (counts_asked a) (keep_first a.ledger.now (counted_in a.ledger.now a.sizes.names a.sizes.grants a.label.now a.day) f l.g l.k) l.g l.self.known l.left)

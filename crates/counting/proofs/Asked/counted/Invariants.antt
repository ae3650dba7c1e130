-- The loop's invariant: the bits of the grants from k on.
use Prim.Native.Nat.{◌-◌, ◌≤◌}
use mathlib.Core.Path.{◌≡◌}
use Rattle.model.specs.Coalitions.{packed}
use Rattle.counting.specs.Counted.{counts_in}
use Rattle.counting.proofs.Asked.counted.Given as goal

abbrev pub invariant-loop-k : goal.invariant-loop-k
invariant-loop-k l = (l.self.sizes.grants ≤ 64) × (l.counted ≡ packed (counts_in l.self.ledger.now l.self.sizes.names l.self.sizes.grants l.self.label.now l.self.day) l.k (64 - l.k))

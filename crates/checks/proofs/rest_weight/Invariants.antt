-- The loop's invariant: what was summed, with the weight of the bytes to come, is the whole weight, and each byte passed added at most 510 × 255.
use Prim.Native.Nat.{◌+◌, ◌*◌, ◌≤◌}
use mathlib.Core.Path.{◌≡◌}
use lib.ListN.{drop}
use Rattle.model.specs.Ledgers.{weighted}
use Rattle.checks.proofs.rest_weight.Given as goal

abbrev pub invariant-loop-i : goal.invariant-loop-i
invariant-loop-i l = (l.sum ≤ 130050 * l.i) × (l.sum + weighted (l.i + 256) (drop l.i l.rest) ≡ weighted 256 l.rest)

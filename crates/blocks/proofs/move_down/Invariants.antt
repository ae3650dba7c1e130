-- The loop's invariant: the first k bytes are moved, and those that are read are as they were.
use mathlib.Core.Path.{◌≡◌}
use Prim.Native.Nat.{◌+◌}
use lib.ListN.{length, drop}
use lib.Seq.{paste}
use Rattle.blocks.proofs.move_down.Given as goal

abbrev pub invariant-loop-k : goal.invariant-loop-k
invariant-loop-k l = length l.initial.ledger ≡ 33280 → l.ledger ≡ paste l.initial.ledger l.at (drop (l.at + 512) l.initial.ledger) l.k

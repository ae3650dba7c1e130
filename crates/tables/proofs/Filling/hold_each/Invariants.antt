-- The loop's invariant: the rows before row g are held, and past the first of them the place after the term is known.
use Prim.Native.Nat.{◌<◌}
use mathlib.Core.Path.{◌≡◌}
use lib.ListN.{drop}
use Rattle.words.specs.AnyBytes.{term_in}
use Rattle.words.specs.FourWords.{side_of}
use Rattle.tables.specs.Filling.{Holding, end_of}
use Rattle.tables.proofs.Filling.hold_each.Given as goal

abbrev pub invariant-loop-g : goal.invariant-loop-g
invariant-loop-g l =
    Holding (term_in (drop l.at l.self.codes.now)) (side_of l.self.side) l.end.sided l.g l.initial.rows l.rows × (0 < l.g → l.end.next ≡ end_of l.self.codes.now l.at)

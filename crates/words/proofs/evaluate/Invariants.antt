-- The loop's invariant: the rows before g are evaluated, on each side.
use Prim.Native.Nat.{◌*◌}
use Rattle.model.specs.Sides.{Side}
use Rattle.words.specs.AnyBytes.{term_in}
use Rattle.words.specs.Evaluation.{table_on, EvaluatedTo}
use Rattle.words.proofs.evaluate.Given as goal

abbrev pub invariant-loop-g : goal.invariant-loop-g
invariant-loop-g l = (s : Side) → EvaluatedTo (term_in l.codes) s (4 * l.g) (table_on l.initial.tables s) (table_on l.tables s)

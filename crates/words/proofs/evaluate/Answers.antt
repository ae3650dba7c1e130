use mathlib.Core.Path.{◌≡◌}
use Prim.Native.Nat.{◌<◌}
use native.Mathlib.Omega.{arith}
use Rattle.model.specs.Sides.{confidentiality, integrity}
use Rattle.words.specs.Evaluation.{row_count}
use Rattle.words.proofs.Names.{rows_few}
use Rattle.words.proofs.Lists.{evaluated_none, evaluated_row}
use Rattle.words.proofs.evaluate.Goals as goal

pub loop-g-init : goal.loop-g-init
loop-g-init c s = evaluated_none _ s _

pub loop-g-preserved : goal.loop-g-preserved
loop-g-preserved c =
    let i = c.loop-g.invariant in
    let held = c.hold.ensures.held_there in
    let few : c.loop-g.g < 16 = omega (arith, rows_few c.args.n, c.row_count-g-end.ensures) in
    elim [
      | confidentiality ↦ rw (c.put_row.ensures.there (omega (arith, few, (i confidentiality).same))) (evaluated_row _ confidentiality _ _ _ _ (i confidentiality) (held.row confidentiality))
      | integrity ↦ rw (c.put_row-in-loop-g.ensures.there (omega (arith, few, (i integrity).same))) (evaluated_row _ integrity _ _ _ _ (i integrity) (held.row integrity))
    ]

pub returns : goal.returns
returns c =
    let l = c.loop-g in
    let e : l.g ≡ row_count c.args.n = omega (arith, c.row_count-g-end.ensures) in
    rw e at l.invariant

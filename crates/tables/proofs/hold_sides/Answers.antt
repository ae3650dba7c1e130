use native.Mathlib.Omega.{arith}
use Prim.Native.Nat.{◌-◌, ◌≤◌}
use lib.Pow.{pow_pos}
use Rattle.model.specs.Sides.{confidentiality, integrity}
use Rattle.words.specs.Evaluation.{job_of, row_count}
use Rattle.words.proofs.Names.{rows_few}
use Rattle.tables.proofs.Holding.{own_rows, same_rows}
use Rattle.tables.proofs.hold_sides.Goals as goal

pub hold-end-requires : goal.hold-end-requires
hold-end-requires c = rw c.row_count-count.ensures (pow_pos (job_of c.args.n - 8), rows_few c.args.n)

pub hold-requires-then-end : goal.hold-requires-then-end
hold-requires-then-end c = rw c.row_count-count.ensures (pow_pos (job_of c.args.n - 8), rows_few c.args.n)

pub returns-then-end : goal.returns-then-end
returns-then-end c =
    let count = c.row_count-count in
    let small : row_count c.args.n ≤ 16 = rows_few c.args.n in
    let see = rw count.ensures at c.hold-end.ensures.held in
    let change = rw count.ensures at c.hold-then-end.ensures.held in
    elim [
      | confidentiality ↦ own_rows _ _ _ _ (omega (arith, c.told-see)) confidentiality _ see
      | integrity ↦ own_rows _ _ _ _ (omega (arith, c.told-change)) integrity _ change
    ]

pub returns-else-end : goal.returns-else-end
returns-else-end c =
    let small : row_count c.args.n ≤ 16 = rows_few c.args.n in
    let see = rw c.row_count-count.ensures at c.hold-end.ensures.held in
    let both = same_rows _ _ _ _ (omega (arith, c.told-see)) confidentiality _ c.if-end.false see in
    elim [ confidentiality ↦ both confidentiality | integrity ↦ both integrity ]

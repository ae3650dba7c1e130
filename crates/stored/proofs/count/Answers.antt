use mathlib.Core.Path.{◌≡◌}
use Prim.Native.Nat.{◌<◌}
use Rattle.words.specs.Evaluation.{row_count}
use Rattle.tables.proofs.Reading.{row_held}
use mathlib.Core.Bool.{true, false}
use native.Mathlib.Omega.{arith}
use Rattle.model.specs.Sides.{confidentiality, integrity}
use Rattle.model.specs.Grants.{counts_under}
use Rattle.words.proofs.Names.{rows_few}
use Rattle.counting.specs.Counted.{grant_in}
use Rattle.stored.specs.Stored.{under_asked}
use Rattle.stored.proofs.Storing.{stored_cong, upto_none, upto_more, upto_all, opposed_breaks, part, no_part}
use Rattle.stored.proofs.count.Goals as goal

pub loop-g-init : goal.loop-g-init
loop-g-init t c f h d e = upto_none _ _ _ e.row

pub loop-g-preserved : goal.loop-g-preserved
loop-g-preserved t c f h d e =
    let a = c.args.asked.now in
    let l = c.loop-g in
    let grant = grant_in a.ledger.now c.args.k in
    let low : l.g < row_count a.sizes.names = omega (arith, c.row_count-g-end.ensures) in
    let gone = c.opposed-gone.ensures grant.p grant.q
    (row_held a.ledger.now a.sizes.names l.g _ _ _ _ c.term_place.ensures low c.hold.ensures c.rows.ensures)
    (row_held a.ledger.now a.sizes.names l.g _ _ _ _ c.term_place-then-counts.ensures low c.hold-then-counts.ensures c.rows-in-loop-g.ensures) in
    let counts : counts_under (under_asked a) (grant_in a.ledger.now c.args.k) ≡ true = rw c.counts.ensures at c.if-counts.true in
    let own = part (under_asked a) (grant_in a.ledger.now c.args.k) counts a.sizes.names l.g in
    upto_more _ _ l.g (omega (arith, c.row_count-g-end.ensures, rows_few a.sizes.names)) l.numbers _ _ (l.invariant f h d e)
    (d.others _ _ _ _ c.step.ensures) (d.number confidentiality _ l.g _ _ _ c.step.ensures (own confidentiality _ (opposed_breaks grant a.sizes.names l.g confidentiality _ (gone.row confidentiality))))
    (d.others _ _ _ _ c.step-in-loop-g.ensures) (d.number integrity _ l.g _ _ _ c.step-in-loop-g.ensures (own integrity _ (opposed_breaks grant a.sizes.names l.g integrity _ (gone.row integrity))))

pub returns-then-counts : goal.returns-then-counts
returns-then-counts t c f h d e =
    let l = c.loop-g in
    upto_all _ l.numbers f h l.g (omega (arith, c.row_count-g-end.ensures)) (l.invariant f h d e)

pub returns : goal.returns
returns t c f h d e =
    let a = c.args.asked.now in
    let counts : counts_under (under_asked a) (grant_in a.ledger.now c.args.k) ≡ false = rw c.counts.ensures at c.if-counts.false in
    stored_cong a.sizes.names _ f h (λ s k. d.still s k (no_part (under_asked a) (grant_in a.ledger.now c.args.k) counts s k)) e

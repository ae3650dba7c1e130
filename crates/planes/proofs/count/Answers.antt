use Prim.Native.Nat.{◌<◌}
use native.Mathlib.Omega.{arith}
use Rattle.planes.proofs.Carrying.{DigitOf, new_digit}
use Rattle.planes.proofs.Planes.{else_none, else_more, between_none, between_more, between_all}
use Rattle.planes.proofs.count.Goals as goal

pub loop-j-init : goal.loop-j-init
loop-j-init t c =
    let a = c.args in
    (omega arith, else_none _ _, λ g f h m d e r. (d.first _ r, between_none a.row g f h a.planes.now e))

pub loop-j-preserved : goal.loop-j-preserved
loop-j-preserved t c =
    let l = c.loop-j in
    let v = l.invariant in
    let small : l.j < 7 = omega arith in
    let put = c.put_row.ensures.there (omega (arith, v.1.same)) in (
      v.0,
      rw put (else_more _ _ l.planes l.j _ small v.1),
      λ g f h m d e r.
          let w = v.2 g f h m d e r in
          let x : DigitOf f l.j g c.row_at-before.result = rw (c.row_at-before.ensures.there (omega (arith, v.1.same))) (w.1.left l.j (omega arith) small) in (
            rw c.both-carry.ensures (d.next l.j _ _ _ x w.0 (rw c.differ-after.ensures at c.tells.ensures)),
            rw (put, c.differ-after.ensures) (between_more _ g f h l.planes l.j _ small v.0 (omega (arith, v.1.same, e.sized)) (new_digit g f h m l.j _ _ _ d x w.0) w.1),
          ),
    )

pub returns : goal.returns
returns t c =
    let l = c.loop-j in
    let v = l.invariant in
    record {
      number = λ g f h m d e r. between_all _ g f h l.planes l.j (omega arith) v.0 (omega (arith, v.1.same, e.sized)) (v.2 g f h m d e r).1;
      others = v.1;
    }

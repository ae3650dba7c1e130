use mathlib.Core.Path.{◌≡◌}
use Prim.Native.Nat.{◌<◌}
use native.Mathlib.Omega.{arith}
use Rattle.planes.proofs.Carrying.{bare_start, bare_more, bare_all}
use Rattle.planes.proofs.unbroken.Goals as goal

pub loop-j-init : goal.loop-j-init
loop-j-init c = (omega arith, λ g f m h e. bare_start f m g _ e)

pub loop-j-preserved : goal.loop-j-preserved
loop-j-preserved c =
    let l = c.loop-j in
    let v = l.invariant in
    let small : l.j < 7 = omega arith in
    (v.0, λ g f m h e. rw c.without-left.ensures (bare_more f m g l.j _ _ (v.1 g f m h e) (rw (c.row_at.ensures.there (omega (arith, h.digits.sized))) (h.digits.digit l.j small))))

pub returns : goal.returns
returns c = λ g f m h e.
    let l = c.loop-j in
    let q : l.j ≡ 7 = omega arith in
    bare_all f m g _ h.small (rw q at (l.invariant.1 g f m h e))

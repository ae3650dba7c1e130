use Prim.Native.Nat.{◌+◌, ◌*◌, ◌≤◌}
use native.Mathlib.Nat.{mul-le-mul}
use native.Mathlib.Omega.{arith}
use mathlib.Core.Path.{◌≡◌}
use lib.ListN.{get_or}
use Rattle.checks.proofs.Sums.{weight_next, weight_end}
use Rattle.checks.proofs.rest_weight.Goals as goal

pub loop-i-preserved : goal.loop-i-preserved
loop-i-preserved c =
    let l = c.loop-i in
    let rest = c.args.rest.now in
    let byte = get_or rest l.i 0 in
    let product : (l.i + 257) * byte ≤ 130050 = mul-le-mul {n₁ = l.i + 257} {m₁ = byte} {n₂ = 510} {m₂ = 255} (omega arith) (omega (arith, c.type_inv.rest l.i)) in
    let here : l.i + 256 + 1 ≡ l.i + 257 = omega arith in
    let next : l.i + 1 + 256 ≡ l.i + 257 = omega arith in
    let split = rw here at (weight_next rest l.i (omega arith) (l.i + 256)) in
    (omega (arith, product), rw next (omega arith))

pub returns : goal.returns
returns c =
    let l = c.loop-i in
    omega (arith, weight_end c.args.rest.now l.i (omega arith) (l.i + 256))

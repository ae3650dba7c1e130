-- A largest layer is small.
use Prim.Native.Nat.{◌≤◌, min}
use native.Mathlib.Omega.{arith}
use Rattle.sperner.proofs.Layers.{twelve_names}
use Rattle.sperner.proofs.room.Goals as goal
use Rattle.sperner.proofs.room.Goals.{After-largest_layer}

few : (c : After-largest_layer) → c.largest_layer.result ≤ 924
few c = omega (arith, c.largest_layer.ensures, twelve_names.fewer (min c.args.n 12) (omega arith))

pub overflow_mul-result : goal.overflow_mul-result
overflow_mul-result c = omega (arith, few c)

pub overflow_add-result : goal.overflow_add-result
overflow_add-result c = omega (arith, few c)

pub overflow_mul-result-2 : goal.overflow_mul-result-2
overflow_mul-result-2 c = omega (arith, few c)

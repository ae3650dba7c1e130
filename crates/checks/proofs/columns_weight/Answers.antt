use Prim.Native.Nat.{◌+◌, ◌-◌}
use native.Mathlib.Omega.{arith}
use mathlib.Core.Path.{◌≡◌}
use Rattle.checks.proofs.Sums.{total_next, total_end, weight_end, weight_once_more}
use Rattle.checks.proofs.columns_weight.Goals as goal

pub loop-column-init : goal.loop-column-init
loop-column-init c =
    let a = c.args in
    record {
      passed = omega arith;
      run_small = omega arith;
      sum_small = omega arith;
      run_is = omega (arith, total_end a.sums.now 16 (omega arith));
      sum_is = omega (arith, weight_end a.sums.now 16 (omega arith) 0, total_end a.runs.now 16 (omega arith));
    }

pub loop-column-preserved : goal.loop-column-preserved
loop-column-preserved c =
    let l = c.loop-column in
    let a = c.args in
    let pre = c.requires in
    let j = l.column - 1 in
    let next : j + 1 ≡ l.column = omega arith in
    let sums_next = rw next at (total_next a.sums.now j (omega arith)) in
    let runs_next = rw next at (total_next a.runs.now j (omega arith)) in
    let weight_more = rw next at (weight_once_more a.sums.now j (omega arith)) in
    record {
      passed = omega arith;
      run_small = omega (arith, pre.sums_most j);
      sum_small = omega (arith, pre.sums_most j, pre.runs_most j);
      run_is = omega arith;
      sum_is = omega arith;
    }

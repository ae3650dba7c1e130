use Prim.Native.Nat.{ℕ}
use native.Mathlib.Omega.{arith}
use mathlib.Core.Path.{◌≡◌, refl, ap, ◌∙◌}
use mathlib.Core.List.{List}
use lib.ListN.{get_or}
use Rattle.checks.specs.Columns.{added}
use Rattle.checks.proofs.Columns.{added_at, added_more}
use Rattle.checks.proofs.add_row.Goals as goal

-- number j of what j numbers were added to is as it was
same_at : (j : ℕ) (s l now : List ℕ) → now ≡ added j s l → get_or now j 0 ≡ get_or s j 0
same_at j s l now e = ap (λ (x : List ℕ). get_or x j 0) e ∙ added_at j s l

pub loop-j-init : goal.loop-j-init
loop-j-init c = (unfold added in refl, unfold added in refl)

pub overflow_add-more : goal.overflow_add-more
overflow_add-more c =
    let l = c.loop-j in
    let a = c.args in
    omega (arith, c.type_inv.row l.j, same_at l.j a.sums.now a.row.now l.sums l.invariant.0, c.requires.0.sums_most l.j)

pub overflow_add-runs : goal.overflow_add-runs
overflow_add-runs c =
    let l = c.loop-j in
    let a = c.args in
    let k = c.requires.0 in
    omega (
      arith,
      same_at l.j a.sums.now a.row.now l.sums l.invariant.0,
      k.sums_most l.j,
      same_at l.j a.runs.now a.sums.now l.runs l.invariant.1,
      k.runs_most l.j,
    )

pub loop-j-preserved : goal.loop-j-preserved
loop-j-preserved c =
    let l = c.loop-j in
    let a = c.args in
    let k = c.requires.0 in
    let e = same_at l.j a.sums.now a.row.now l.sums l.invariant.0 in (
      added_more l.j a.sums.now a.row.now l.sums (omega (arith, k.sums_many)) (omega (arith, c.requires.1)) l.invariant.0,
      rw e (added_more l.j a.runs.now a.sums.now l.runs (omega (arith, k.runs_many)) (omega (arith, k.sums_many)) l.invariant.1),
    )

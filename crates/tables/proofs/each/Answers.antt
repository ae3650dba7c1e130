use mathlib.Core.Path.{◌≡◌, refl}
use native.Mathlib.Omega.{arith}
use Rattle.tables.proofs.Rows.{each_none, each_more}
use Rattle.tables.proofs.each.Goals as goal

pub loop-g-init : goal.loop-g-init
loop-g-init t c = each_none _ _

pub loop-g-preserved : goal.loop-g-preserved
loop-g-preserved t c = each_more _ _ c.loop-g.g _ _ c.loop-g.rows c.loop-g.invariant refl c.of.ensures

pub returns : goal.returns
returns t c = let e : c.loop-g.g ≡ c.args.count = omega arith in rw e at c.loop-g.invariant

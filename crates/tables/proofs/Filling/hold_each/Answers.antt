use native.Mathlib.Omega.{arith}
use mathlib.Core.Path.{◌≡◌}
use Rattle.tables.proofs.Holding.{holding_none, holding_more, same_words}
use Rattle.tables.proofs.Filling.hold_each.Goals as goal

pub loop-g-init : goal.loop-g-init
loop-g-init c = (holding_none _ _ _ _, λ l. absurd (omega arith))

pub loop-g-preserved : goal.loop-g-preserved
loop-g-preserved c =
    let l = c.loop-g in
    let held = c.hold-held.ensures in
    (holding_more _ _ _ _ _ l.g _ _ l.rows l.invariant.0 held.held_there c.on.ensures (same_words _ _ _ c.ne.ensures), λ _. held.past)

pub returns-clause-held : goal.returns-clause-held
returns-clause-held c = let e : c.loop-g.g ≡ c.args.self.now.count = omega arith in rw e at c.loop-g.invariant.0

pub returns-clause-past : goal.returns-clause-past
returns-clause-past c = c.loop-g.invariant.1 (omega (arith, c.requires.0))

use Prim.Native.Nat.{◌-◌}
use mathlib.Core.Path.{sym, ap, ◌∙◌}
use native.Mathlib.Omega.{arith}
use Rattle.model.specs.Dates.{days_later}
use Rattle.dates.proofs.Later.{later_none, later_past, later_one}
use Rattle.dates.proofs.days_later.Goals as goal

pub returns-then-reached-ge21991231 : goal.returns-then-reached-ge21991231
returns-then-reached-ge21991231 c = let l = c.loop in sym (later_past (c.args.count - l.counter) l.reached (omega arith) (omega arith)) ∙ l.invariant

pub loop-preserved : goal.loop-preserved
loop-preserved c =
    let l = c.loop in
    ap (λ (k : _). days_later k c.next_day-reached.result) (omega arith)
    ∙ ap (days_later (c.args.count - l.counter - 1)) c.next_day-reached.ensures
    ∙ sym (later_one (c.args.count - l.counter) l.reached (omega arith) (omega arith)) ∙ l.invariant

pub returns : goal.returns
returns c = let l = c.loop in sym (later_none (c.args.count - l.counter) l.reached (omega arith)) ∙ l.invariant

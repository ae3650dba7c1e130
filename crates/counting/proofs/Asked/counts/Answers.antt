-- Its days, and then whether it is heard.
use mathlib.Core.Path.{sym, ◌∙◌}
use Rattle.model.specs.Grants.{counts_under}
use Rattle.counting.proofs.Asked.counts.Goals as goal

pub returns-then-on_day : goal.returns-then-on_day
unfolding counts_under
returns-then-on_day c = simp (sym c.on_day.ensures ∙ c.if-on_day.true) c.heard.ensures

pub returns-else-on_day : goal.returns-else-on_day
unfolding counts_under
returns-else-on_day c = let e = sym c.on_day.ensures ∙ c.if-on_day.false in c.if-on_day.false ∙ rw e

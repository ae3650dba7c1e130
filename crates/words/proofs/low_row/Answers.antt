use mathlib.Core.Path.{sym, ◌∙◌}
use borrow.Author.Tests.{ltb-true, ltb-false}
use Rattle.words.proofs.Names.{few_row, no_row, all_row, row_after, row_out, row_in}
use Rattle.words.proofs.low_row.Goals as goal

pub returns-else-g-eq0 : goal.returns-else-g-eq0
returns-else-g-eq0 c = no_row _ _ _ (row_after _ _ c.if-n-lt8.true c.if-g-eq0.false) c.same.ensures

pub returns-then-g-eq0 : goal.returns-then-g-eq0
returns-then-g-eq0 c = few_row _ _ _ _ c.if-n-lt8.true c.if-g-eq0.true c.low_mask.ensures c.low_mask-then-g-eq0.ensures

pub returns-then-below_power : goal.returns-then-below_power
returns-then-below_power c = all_row _ _ _ (row_in _ _ c.if-n-lt8.false (ltb-true _ _ (sym c.below_power.ensures ∙ c.if-below_power.true))) c.same-then-below_power.ensures

pub returns-else-below_power : goal.returns-else-below_power
returns-else-below_power c = no_row _ _ _ (row_out _ _ c.if-n-lt8.false (ltb-false _ _ (sym c.below_power.ensures ∙ c.if-below_power.false))) c.same-else-below_power.ensures

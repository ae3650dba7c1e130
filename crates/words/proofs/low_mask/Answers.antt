use native.Mathlib.Omega.{arith}
use mathlib.Core.Path.{sym, ◌∙◌}
use borrow.Author.Tests.{ltb-true, ltb-false}
use Rattle.words.proofs.Names.{coalitions_low, coalitions_after, coalitions_in, coalitions_out, shift_lt, shifted_two}
use Rattle.words.proofs.low_mask.Goals as goal

pub overflow_shl-result-then-w-eq0 : goal.overflow_shl-result-then-w-eq0
overflow_shl-result-then-w-eq0 c = shift_lt _ c.if-n-lt6.true

pub overflow_sub-result : goal.overflow_sub-result
overflow_sub-result c = omega (arith, shifted_two _ c.if-n-lt6.true)

pub returns-then-w-eq0 : goal.returns-then-w-eq0
returns-then-w-eq0 c = coalitions_low _ _ c.if-n-lt6.true c.if-w-eq0.true

pub returns-else-w-eq0 : goal.returns-else-w-eq0
returns-else-w-eq0 c = coalitions_after _ _ c.if-n-lt6.true c.if-w-eq0.false

pub returns-then-below_power : goal.returns-then-below_power
returns-then-below_power c = coalitions_in _ _ c.if-n-lt6.false (ltb-true _ _ (sym c.below_power.ensures ∙ c.if-below_power.true))

pub returns-else-below_power : goal.returns-else-below_power
returns-else-below_power c = coalitions_out _ _ c.if-n-lt6.false (ltb-false _ _ (sym c.below_power.ensures ∙ c.if-below_power.false))

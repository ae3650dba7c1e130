use Rattle.std.proofs.Common.{arith}
use Rattle.words.proofs.Names.{shift_lt}
use Rattle.short_forms.proofs.Needed.{is_member, no_member}
use Rattle.short_forms.proofs.Reduced.{less_moved, less_read, less_nowhere}
use Rattle.short_forms.proofs.less_word.Goals as goal

pub overflow_shl-result : goal.overflow_shl-result
overflow_shl-result c = shift_lt _ c.if-i-lt6.true

pub returns-then-i-lt6 : goal.returns-then-i-lt6
returns-then-i-lt6 c = less_moved _ _ _ _ c.if-i-lt6.true (c.type_inv.marks c.args.w).fits c.name_word-having.ensures

pub returns-then-w-i-eq1 : goal.returns-then-w-i-eq1
returns-then-w-i-eq1 c = less_read _ _ _ c.if-i-lt6.false (omega arith) (is_member _ _ c.if-w-i-eq1.true) (c.type_inv.marks _).fits

pub returns-else-w-i-eq1 : goal.returns-else-w-i-eq1
returns-else-w-i-eq1 c = less_nowhere _ _ c.if-i-lt6.false _ (no_member _ _ c.if-w-i-eq1.false)

use native.Mathlib.Omega.{arith}
use mathlib.Core.Path.{sym}
use Rattle.questions.proofs.Searching.{lowest_small, lowest-bit, first_word, second_word, third_word, fourth_word, no_word}
use Rattle.questions.proofs.lowest_in.Goals as goal

pub returns-then-row-ne0-clause-found : goal.returns-then-row-ne0-clause-found
returns-then-row-ne0-clause-found c = sym (first_word _ _ (lowest-bit _ _ (omega arith) c.lowest.ensures c.if-row-ne0.true))

pub returns-then-row-ne0-clause-small : goal.returns-then-row-ne0-clause-small
returns-then-row-ne0-clause-small c = omega (arith, lowest_small _ _ (omega arith) c.lowest.ensures)

pub overflow_add-result : goal.overflow_add-result
overflow_add-result c = omega (arith, lowest_small _ _ (omega arith) c.lowest-then-row-ne0-2.ensures)

pub returns-then-row-ne0-2-clause-found : goal.returns-then-row-ne0-2-clause-found
returns-then-row-ne0-2-clause-found c = sym (second_word _ _ c.if-row-ne0.false (lowest-bit _ _ (omega arith) c.lowest-then-row-ne0-2.ensures c.if-row-ne0-2.true))

pub returns-then-row-ne0-2-clause-small : goal.returns-then-row-ne0-2-clause-small
returns-then-row-ne0-2-clause-small c = omega (arith, lowest_small _ _ (omega arith) c.lowest-then-row-ne0-2.ensures)

pub overflow_add-result-then-row-ne0-3 : goal.overflow_add-result-then-row-ne0-3
overflow_add-result-then-row-ne0-3 c = omega (arith, lowest_small _ _ (omega arith) c.lowest-then-row-ne0-3.ensures)

pub returns-then-row-ne0-3-clause-found : goal.returns-then-row-ne0-3-clause-found
returns-then-row-ne0-3-clause-found c = sym (third_word _ _ c.if-row-ne0.false c.if-row-ne0-2.false (lowest-bit _ _ (omega arith) c.lowest-then-row-ne0-3.ensures c.if-row-ne0-3.true))

pub returns-then-row-ne0-3-clause-small : goal.returns-then-row-ne0-3-clause-small
returns-then-row-ne0-3-clause-small c = omega (arith, lowest_small _ _ (omega arith) c.lowest-then-row-ne0-3.ensures)

pub overflow_add-result-then-row-ne0-4 : goal.overflow_add-result-then-row-ne0-4
overflow_add-result-then-row-ne0-4 c = omega (arith, lowest_small _ _ (omega arith) c.lowest-then-row-ne0-4.ensures)

pub returns-then-row-ne0-4-clause-found : goal.returns-then-row-ne0-4-clause-found
returns-then-row-ne0-4-clause-found c = sym (fourth_word _ _ c.if-row-ne0.false c.if-row-ne0-2.false c.if-row-ne0-3.false (lowest-bit _ _ (omega arith) c.lowest-then-row-ne0-4.ensures c.if-row-ne0-4.true))

pub returns-then-row-ne0-4-clause-small : goal.returns-then-row-ne0-4-clause-small
returns-then-row-ne0-4-clause-small c = omega (arith, lowest_small _ _ (omega arith) c.lowest-then-row-ne0-4.ensures)

pub returns-else-row-ne0-4-clause-found : goal.returns-else-row-ne0-4-clause-found
returns-else-row-ne0-4-clause-found c = sym (no_word _ 0 c.if-row-ne0.false c.if-row-ne0-2.false c.if-row-ne0-3.false c.if-row-ne0-4.false)

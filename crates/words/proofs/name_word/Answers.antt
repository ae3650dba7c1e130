use mathlib.Core.Path.{refl}
use native.Mathlib.Omega.{arith}
use lib.Dec.{lit<}
use Rattle.model.specs.Coalitions.{member, packed}
use Rattle.words.proofs.Names.{name_far, name_low, name_on, name_off}
use Rattle.words.proofs.name_word.Goals as goal

pub returns-in_default : goal.returns-in_default
returns-in_default c = name_far _ _ (omega arith) (omega arith)

pub returns-in-0 : goal.returns-in-0
unfolding packed member
returns-in-0 c = name_low 0 _ _ _ c.in-0.is (lit< tt) refl

pub returns-in-1 : goal.returns-in-1
unfolding packed member
returns-in-1 c = name_low 1 _ _ _ c.in-1.is (lit< tt) refl

pub returns-in-2 : goal.returns-in-2
unfolding packed member
returns-in-2 c = name_low 2 _ _ _ c.in-2.is (lit< tt) refl

pub returns-in-3 : goal.returns-in-3
unfolding packed member
returns-in-3 c = name_low 3 _ _ _ c.in-3.is (lit< tt) refl

pub returns-in-4 : goal.returns-in-4
unfolding packed member
returns-in-4 c = name_low 4 _ _ _ c.in-4.is (lit< tt) refl

pub returns-in-5 : goal.returns-in-5
unfolding packed member
returns-in-5 c = name_low 5 _ _ _ c.in-5.is (lit< tt) refl

pub returns-then-w-i-eq1 : goal.returns-then-w-i-eq1
returns-then-w-i-eq1 c = name_on _ _ (omega arith) c.if-w-i-eq1.true

pub returns-else-w-i-eq1 : goal.returns-else-w-i-eq1
returns-else-w-i-eq1 c = name_off _ _ (omega arith) c.if-w-i-eq1.false

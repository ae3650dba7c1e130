-- In each arm the code is a number, at which `mark_of` computes.
use Rattle.std.proofs.Common.{arith}
use Rattle.std.proofs.lemmas.Grind.{common_steps}
use Rattle.writing.specs.Writing.{mark_of}
use Rattle.writing.proofs.mark_of.Goals as goal

pub returns-in-0-to-11 : goal.returns-in-0-to-11
unfolding mark_of
returns-in-0-to-11 c = grind (arith, common_steps)

pub returns-in-32 : goal.returns-in-32
unfolding mark_of
returns-in-32 c = grind (arith, common_steps)

pub returns-in-33 : goal.returns-in-33
unfolding mark_of
returns-in-33 c = grind (arith, common_steps)

pub returns-in-48 : goal.returns-in-48
unfolding mark_of
returns-in-48 c = grind (arith, common_steps)

pub returns-in-49 : goal.returns-in-49
unfolding mark_of
returns-in-49 c = grind (arith, common_steps)

pub returns-in-50 : goal.returns-in-50
unfolding mark_of
returns-in-50 c = grind (arith, common_steps)

pub returns-in-64 : goal.returns-in-64
unfolding mark_of
returns-in-64 c = grind (arith, common_steps)

pub returns-in-65 : goal.returns-in-65
unfolding mark_of
returns-in-65 c = grind (arith, common_steps)

pub returns-in_default : goal.returns-in_default
unfolding mark_of
returns-in_default c = grind (arith, common_steps)

use native.Mathlib.Omega.{arith}
use mathlib.Core.Path.{refl, sym, ◌∙◌}
use borrow.Author.Tests.{le-ltb}
use Rattle.model.specs.Coalitions.{member}
use Rattle.words.proofs.Packing.{past_word}
use Rattle.words.proofs.bit_set.Goals as goal

pub returns-then-k-lt64 : goal.returns-then-k-lt64
unfolding member
returns-then-k-lt64 c = refl

pub returns-else-k-lt64 : goal.returns-else-k-lt64
returns-else-k-lt64 c = le-ltb _ 64 c.if-k-lt64.false ∙ sym (past_word _ _ c.if-k-lt64.false (omega arith))

use native.Mathlib.Omega.{arith}
use borrow.Author.Tests.{le-leb}
use mathlib.Core.Path.{◌∙◌}
use Rattle.words.proofs.Names.{power_past, power_within}
use Rattle.words.proofs.below_power.Goals as goal

pub returns-then-n-ge64 : goal.returns-then-n-ge64
returns-then-n-ge64 c = le-leb 64 c.args.n c.if-n-ge64.true ∙ power_past c.args.k c.args.n c.if-n-ge64.true (omega arith)

pub returns-else-n-ge64 : goal.returns-else-n-ge64
returns-else-n-ge64 c = power_within c.args.k c.args.n

use mathlib.Core.Path.{sym, ◌∙◌}
use native.Mathlib.Omega.{arith}
use borrow.Author.Tests.{le-leb}
use Rattle.counting.proofs.Asked.heard.Goals as goal

pub returns-then-self-le8 : goal.returns-then-self-le8
returns-then-self-le8 c = le-leb c.args.self.now.sizes.names 8 (omega arith) ∙ sym c.if-first_clear.true ∙ c.first_clear.ensures.alone (omega arith)

-- By the last character.
use Rattle.std.proofs.Common.{sym, ◌∙◌}
use Rattle.notation.proofs.Places.{ends_same, drop_last}
use Rattle.notation.proofs.Reader.pass.Goals as goal

pub returns-in_default-clause-told : goal.returns-in_default-clause-told
returns-in_default-clause-told c = rw (← c.self.view_is) (sym c.in_default.ensures.cases ∙ ends_same c.self.inside.left.now c.args.c)

pub returns-clause-told : goal.returns-clause-told
returns-clause-told c = rw (← c.self.view_is) (sym c.in-Some.ensures.cases.0 ∙ ends_same c.self.inside.left.now c.args.c)

pub returns-clause-passed : goal.returns-clause-passed
returns-clause-passed c = rw (← c.self.view_is, c.in-Some.ensures.cases.1, drop_last c.self.inside.left.now)

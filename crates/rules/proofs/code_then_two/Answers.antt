use Rattle.std.proofs.Common.{rules, ◌∷◌, []}
use Rattle.rules.proofs.Comparing.{same_pointwise, stripped_twice}
use Rattle.rules.proofs.code_then_two.Goals as goal

pub returns : goal.returns
returns c =
    stripped_twice c.args.s.now (c.args.code ∷ []) c.args.a.now c.args.b.now _ c.strip_prefix.ensures.cases _ _ c.and_then.ensures (λ x p. search rules)
    _ _ c.is_some_and.ensures (λ x p. search (rules, same_pointwise))

use Rattle.std.proofs.Common.{rules, ◌∷◌, []}
use Rattle.rules.proofs.Comparing.{same_pointwise, stripped}
use Rattle.rules.proofs.code_then.Goals as goal

pub returns : goal.returns
returns c = stripped c.args.s.now (c.args.code ∷ []) c.args.a.now _ c.strip_prefix.ensures.cases _ _ c.is_some_and.ensures (λ x p. search (rules, same_pointwise))

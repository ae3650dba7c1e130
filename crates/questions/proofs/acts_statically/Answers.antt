use mathlib.Core.Path.{refl}
use mathlib.Core.Bool.{true}
use Rattle.questions.proofs.Refuting.{static_none}
use Rattle.questions.proofs.acts_statically.Goals as goal

pub returns : goal.returns
returns c = static_none _ _ _ _ _ c.is_none.ensures (c.first_refuter.ensures (λ s c. true) (λ s c. refl))

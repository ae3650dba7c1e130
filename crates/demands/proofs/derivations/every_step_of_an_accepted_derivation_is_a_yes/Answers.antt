use Rattle.demands.proofs.Deriving.{accepted_steps_are_yes}
use Rattle.demands.proofs.derivations.every_step_of_an_accepted_derivation_is_a_yes.Goals as goal

pub returns : goal.returns
returns c = accepted_steps_are_yes

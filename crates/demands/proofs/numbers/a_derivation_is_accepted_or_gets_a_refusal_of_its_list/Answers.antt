use Rattle.demands.proofs.Figures.{derivations_answered}
use Rattle.demands.proofs.numbers.a_derivation_is_accepted_or_gets_a_refusal_of_its_list.Goals as goal

pub returns : goal.returns
returns c = derivations_answered

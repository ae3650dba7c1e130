use Rattle.demands.proofs.Asking.{flows_to_exact}
use Rattle.demands.proofs.answers.flows_to_says_yes_or_the_first_refuter.Goals as goal

pub returns : goal.returns
returns c = flows_to_exact

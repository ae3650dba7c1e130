use Rattle.demands.proofs.Asking.{acts_for_exact}
use Rattle.demands.proofs.answers.acts_for_says_yes_or_the_first_refuter.Goals as goal

pub returns : goal.returns
returns c = acts_for_exact

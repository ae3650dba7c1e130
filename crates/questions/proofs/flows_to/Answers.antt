use Rattle.model.specs.Questions.{flows_to}
use Rattle.questions.proofs.flows_to.Goals as goal

pub returns : goal.returns
unfolding flows_to
returns c = c.ask.ensures

use Rattle.model.specs.Questions.{acts_for}
use Rattle.questions.proofs.acts_for.Goals as goal

pub returns : goal.returns
unfolding acts_for
returns c = c.ask.ensures

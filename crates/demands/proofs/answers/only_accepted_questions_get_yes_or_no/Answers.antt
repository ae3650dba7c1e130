use Rattle.demands.proofs.Asking.{questions_only_asked}
use Rattle.demands.proofs.answers.only_accepted_questions_get_yes_or_no.Goals as goal

pub returns : goal.returns
returns c = questions_only_asked

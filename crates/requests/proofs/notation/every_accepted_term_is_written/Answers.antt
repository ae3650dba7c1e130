use Rattle.requests.proofs.Language.{every_term_is_written}
use Rattle.requests.proofs.notation.every_accepted_term_is_written.Goals as goal

pub returns : goal.returns
returns c = every_term_is_written

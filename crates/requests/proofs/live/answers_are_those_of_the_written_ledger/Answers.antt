use Rattle.requests.proofs.Keeping.{answers_are_written}
use Rattle.requests.proofs.live.answers_are_those_of_the_written_ledger.Goals as goal

pub returns : goal.returns
returns c = answers_are_written

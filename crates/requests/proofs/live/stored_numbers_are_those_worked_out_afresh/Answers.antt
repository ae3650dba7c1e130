use Rattle.requests.proofs.Keeping.{stored_are_afresh}
use Rattle.requests.proofs.live.stored_numbers_are_those_worked_out_afresh.Goals as goal

pub returns : goal.returns
returns c = stored_are_afresh

use Rattle.requests.proofs.Keeping.{adding_is_undone}
use Rattle.requests.proofs.live.withdrawing_undoes_adding.Goals as goal

pub returns : goal.returns
returns c = adding_is_undone

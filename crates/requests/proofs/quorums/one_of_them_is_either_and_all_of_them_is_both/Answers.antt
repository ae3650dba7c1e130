use Rattle.requests.proofs.Places.{one_and_all}
use Rattle.requests.proofs.quorums.one_of_them_is_either_and_all_of_them_is_both.Goals as goal

pub returns : goal.returns
returns c = one_and_all

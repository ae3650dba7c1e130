use Rattle.requests.proofs.Places.{held_by_places}
use Rattle.requests.proofs.quorums.a_quorum_is_held_where_k_of_its_places_are.Goals as goal

pub returns : goal.returns
returns c = held_by_places

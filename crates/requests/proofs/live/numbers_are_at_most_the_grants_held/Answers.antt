use Rattle.requests.proofs.Keeping.{at_most_the_grants}
use Rattle.requests.proofs.live.numbers_are_at_most_the_grants_held.Goals as goal

pub returns : goal.returns
returns c = at_most_the_grants

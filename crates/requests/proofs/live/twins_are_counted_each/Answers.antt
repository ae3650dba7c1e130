use Rattle.requests.proofs.Keeping.{twins_count_each}
use Rattle.requests.proofs.live.twins_are_counted_each.Goals as goal

pub returns : goal.returns
returns c = twins_count_each

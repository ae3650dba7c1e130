use Rattle.requests.proofs.Keeping.{stay_as_made}
use Rattle.requests.proofs.live.names_label_and_day_never_change.Goals as goal

pub returns : goal.returns
returns c = stay_as_made

use Rattle.requests.proofs.Keeping.{refused_changes_nothing}
use Rattle.requests.proofs.live.a_refused_call_changes_nothing.Goals as goal

pub returns : goal.returns
returns c = refused_changes_nothing

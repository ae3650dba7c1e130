use Rattle.requests.proofs.Stopping.{verdict_is_soundness}
use Rattle.requests.proofs.testing.the_verdict_is_soundness.Goals as goal

pub returns : goal.returns
returns c = verdict_is_soundness

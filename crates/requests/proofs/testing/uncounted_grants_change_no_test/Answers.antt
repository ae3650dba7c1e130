use Rattle.requests.proofs.Stopping.{uncounted_change_no_test}
use Rattle.requests.proofs.testing.uncounted_grants_change_no_test.Goals as goal

pub returns : goal.returns
returns c = uncounted_change_no_test

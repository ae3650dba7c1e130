use Rattle.requests.proofs.Stopping.{ends_at_the_broken_grant}
use Rattle.requests.proofs.testing.the_test_ends_at_the_first_broken_grant.Goals as goal

pub returns : goal.returns
returns c = ends_at_the_broken_grant

use Rattle.demands.proofs.Comparing.{uncounted_change_nothing}
use Rattle.demands.proofs.extracts.grants_that_do_not_count_change_nothing.Goals as goal

pub returns : goal.returns
returns c = uncounted_change_nothing

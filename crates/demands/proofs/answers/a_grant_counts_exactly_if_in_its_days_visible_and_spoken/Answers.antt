use Rattle.demands.proofs.Asking.{counts_means}
use Rattle.demands.proofs.answers.a_grant_counts_exactly_if_in_its_days_visible_and_spoken.Goals as goal

pub returns : goal.returns
returns c = counts_means

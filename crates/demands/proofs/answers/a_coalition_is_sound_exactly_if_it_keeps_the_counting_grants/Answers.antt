use Rattle.demands.proofs.Asking.{sound_means}
use Rattle.demands.proofs.answers.a_coalition_is_sound_exactly_if_it_keeps_the_counting_grants.Goals as goal

pub returns : goal.returns
returns c = sound_means

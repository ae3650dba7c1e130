use Rattle.demands.proofs.Figures.{notation_answered}
use Rattle.demands.proofs.numbers.texts_and_terms_are_written_or_get_a_refusal_of_their_lists.Goals as goal

pub returns : goal.returns
returns c = notation_answered

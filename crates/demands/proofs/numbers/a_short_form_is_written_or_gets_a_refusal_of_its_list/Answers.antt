use Rattle.demands.proofs.Figures.{short_forms_answered}
use Rattle.demands.proofs.numbers.a_short_form_is_written_or_gets_a_refusal_of_its_list.Goals as goal

pub returns : goal.returns
returns c = short_forms_answered

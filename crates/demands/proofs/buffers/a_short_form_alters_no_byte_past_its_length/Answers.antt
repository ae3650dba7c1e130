use Rattle.demands.proofs.Lent.{short_forms_stay_within}
use Rattle.demands.proofs.buffers.a_short_form_alters_no_byte_past_its_length.Goals as goal

pub returns : goal.returns
returns c = short_forms_stay_within

use Rattle.demands.proofs.Lent.{notation_stays_within}
use Rattle.demands.proofs.buffers.codes_and_texts_alter_no_byte_past_their_length.Goals as goal

pub returns : goal.returns
returns c = notation_stays_within

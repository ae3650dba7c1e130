use Rattle.demands.proofs.Lent.{short_buffers_refused}
use Rattle.demands.proofs.buffers.refusal_8_begins_below_3700_bytes.Goals as goal

pub returns : goal.returns
returns c = short_buffers_refused

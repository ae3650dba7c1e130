use Rattle.demands.proofs.Lent.{refused_alter_nothing}
use Rattle.demands.proofs.buffers.a_refused_call_alters_no_byte.Goals as goal

pub returns : goal.returns
returns c = refused_alter_nothing

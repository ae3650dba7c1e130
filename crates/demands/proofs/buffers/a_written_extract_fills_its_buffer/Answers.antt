use Rattle.demands.proofs.Lent.{extracts_fill}
use Rattle.demands.proofs.buffers.a_written_extract_fills_its_buffer.Goals as goal

pub returns : goal.returns
returns c = extracts_fill

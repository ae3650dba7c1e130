use Rattle.requests.proofs.Language.{reads_back}
use Rattle.requests.proofs.notation.what_is_written_reads_back.Goals as goal

pub returns : goal.returns
returns c = reads_back

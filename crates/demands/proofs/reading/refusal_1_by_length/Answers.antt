use Rattle.model.proofs.Refusals.{refused_one}
use Rattle.demands.proofs.reading.refusal_1_by_length.Goals as goal

pub returns : goal.returns
returns c = refused_one

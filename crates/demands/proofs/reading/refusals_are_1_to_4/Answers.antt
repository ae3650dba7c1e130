use Rattle.model.proofs.Refusals.{refused_number}
use Rattle.demands.proofs.reading.refusals_are_1_to_4.Goals as goal

pub returns : goal.returns
returns c = refused_number

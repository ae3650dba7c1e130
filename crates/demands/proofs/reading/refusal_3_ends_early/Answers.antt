use Rattle.model.proofs.Refusals.{refused_three}
use Rattle.demands.proofs.reading.refusal_3_ends_early.Goals as goal

pub returns : goal.returns
returns c = refused_three

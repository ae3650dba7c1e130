use Rattle.model.proofs.Refusals.{refused_four}
use Rattle.demands.proofs.reading.refusal_4_codes_left.Goals as goal

pub returns : goal.returns
returns c = refused_four

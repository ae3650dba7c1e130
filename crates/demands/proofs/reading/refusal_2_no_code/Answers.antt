use Rattle.model.proofs.Refusals.{refused_two}
use Rattle.demands.proofs.reading.refusal_2_no_code.Goals as goal

pub returns : goal.returns
returns c = refused_two

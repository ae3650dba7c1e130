use Rattle.model.proofs.Reading.{accepted_codes}
use Rattle.demands.proofs.reading.reading_and_codes_agree.Goals as goal

pub returns : goal.returns
returns c = accepted_codes

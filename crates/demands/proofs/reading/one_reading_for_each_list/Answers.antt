use Rattle.model.proofs.Reading.{codes_unique}
use Rattle.demands.proofs.reading.one_reading_for_each_list.Goals as goal

pub returns : goal.returns
returns c = codes_unique

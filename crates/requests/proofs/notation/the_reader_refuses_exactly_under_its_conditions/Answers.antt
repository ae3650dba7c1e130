use Rattle.requests.proofs.Language.{reader_refuses}
use Rattle.requests.proofs.notation.the_reader_refuses_exactly_under_its_conditions.Goals as goal

pub returns : goal.returns
returns c = reader_refuses

use Rattle.requests.proofs.Language.{writer_refuses}
use Rattle.requests.proofs.notation.the_writer_refuses_exactly_under_its_conditions.Goals as goal

pub returns : goal.returns
returns c = writer_refuses

use Rattle.requests.proofs.Language.{one_tree}
use Rattle.requests.proofs.notation.each_text_has_one_reading.Goals as goal

pub returns : goal.returns
returns c = one_tree

use Rattle.requests.proofs.Language.{fewest_brackets}
use Rattle.requests.proofs.notation.no_text_has_fewer_brackets.Goals as goal

pub returns : goal.returns
returns c = fewest_brackets

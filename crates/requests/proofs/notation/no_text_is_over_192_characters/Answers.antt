use Rattle.requests.proofs.Language.{at_most_192}
use Rattle.requests.proofs.notation.no_text_is_over_192_characters.Goals as goal

pub returns : goal.returns
returns c = at_most_192

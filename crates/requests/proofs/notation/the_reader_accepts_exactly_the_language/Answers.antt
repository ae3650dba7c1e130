use Rattle.requests.proofs.Language.{accepts_the_language}
use Rattle.requests.proofs.notation.the_reader_accepts_exactly_the_language.Goals as goal

pub returns : goal.returns
returns c = accepts_the_language

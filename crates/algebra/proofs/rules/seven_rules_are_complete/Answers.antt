-- The algebra's derivation, its other names taken out.
use Rattle.algebra.proofs.SevenRules.{rules_complete}
use Rattle.algebra.proofs.rules.seven_rules_are_complete.Goals as goal

pub returns : goal.returns
returns c = rules_complete

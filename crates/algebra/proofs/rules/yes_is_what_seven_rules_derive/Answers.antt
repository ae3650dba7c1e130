-- The rules are sound and complete for the judge.
use Rattle.algebra.proofs.SevenRules.{yes_derived}
use Rattle.algebra.proofs.rules.yes_is_what_seven_rules_derive.Goals as goal

pub returns : goal.returns
returns c = yes_derived

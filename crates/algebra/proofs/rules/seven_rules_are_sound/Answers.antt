-- Each rule keeps what a sound coalition holds.
use Rattle.algebra.proofs.SevenRules.{rules_sound}
use Rattle.algebra.proofs.rules.seven_rules_are_sound.Goals as goal

pub returns : goal.returns
returns c = rules_sound

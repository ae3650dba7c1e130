-- What the results of the check stand for, in the words and numbers of document 01. Assumes nothing: these are definitions.
use Rattle.std.specs.Prelude.{ℕ, List, [], Option, Some, None, Result, Ok, Err}
use Rattle.std.specs.Borrow.{Bor}
use Rattle.model.specs.Readings.{Reading, accepted, refused}
use Rattle.model.specs.Answers as model
use Rattle.model.specs.Derivations.{Rule}
use Rattle.refusals.specs.Numbers.{refusal_number}
use Rattle.refusals.specs.Results.{reading_by}
use Rattle.derivations.specs.Steps.{rule_is}
use Rattle.derivations.specs.declared.Rule.{Rule as CodeRule}
use Rattle.derivations.specs.declared.StepRefusal.{StepRefusal}
use Rattle.derivations.specs.declared.StepRefusal.TheVariants.{Form, Left, Right, Premise, Grant, Uncounted, Rule as Unmet}
use Rattle.derivations.specs.declared.DerivationRefusal.{DerivationRefusal}
use Rattle.derivations.specs.declared.DerivationRefusal.TheVariants.{Call, Step}

-- the number of a step's refusal
abbrev pub step_number : StepRefusal → ℕ
step_number Form = 61
step_number Left = 62
step_number Right = 63
step_number Premise = 64
step_number Grant = 65
step_number Uncounted = 66
step_number Unmet = 67

abbrev pub step_reading : Result (Unit {0}) StepRefusal → Reading (Unit {0})
step_reading r = reading_by step_number r

-- the rule of a step that was read
abbrev pub rule_reading : Result CodeRule StepRefusal → Reading Rule
rule_reading (Ok rule) = accepted (rule_is rule)
rule_reading (Err why) = refused (step_number why)

abbrev pub refusal_of : DerivationRefusal → model.Answer
refusal_of (Call why) = model.Refused (refusal_number why)
refusal_of (Step k why) = model.RefusedAt k (step_number why)

-- accepted is the yes of a derivation
abbrev pub checked_of : Result (Unit {0}) DerivationRefusal → model.Answer
checked_of (Ok u) = model.Yes
checked_of (Err why) = refusal_of why

-- the part that is quoted, an empty one where there is none
abbrev pub part_of : Option (Bor (List ℕ)) → List ℕ
part_of (Some part) = part.now
part_of None = []

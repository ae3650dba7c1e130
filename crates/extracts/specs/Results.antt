-- What an extract call comes to (document 01, "Extract" and "Refusals by operation"). Assumes nothing: these are definitions.
use Rattle.std.specs.Prelude.{List, ℕ, Result}
use Rattle.model.specs.Answers.{Outcome}
use Rattle.refusals.specs.declared.Refusal.{Refusal}
use Rattle.refusals.specs.Results.{answer_of}

-- a call's answer, and the bytes of the buffer afterwards: written is what yes is
abbrev pub outcome_of : Result (Unit {0}) Refusal → List ℕ → Outcome
outcome_of r bytes = record { answer = answer_of r; buffer = bytes }

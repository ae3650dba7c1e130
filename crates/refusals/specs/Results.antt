-- What a result stands for among the model's readings and answers. Assumes nothing: these are definitions.
use Rattle.std.specs.Prelude.{ℕ, List, Result, Ok, Err}
use Rattle.model.specs.Readings.{Reading, accepted, refused}
use Rattle.model.specs.Answers.{Answer, Yes, Written, Refused, Outcome}
use Rattle.refusals.specs.declared.TermRefusal.{TermRefusal}
use Rattle.refusals.specs.declared.Refusal.{Refusal}
use Rattle.refusals.specs.Numbers.{term_number, refusal_number}

-- the value that was accepted, or the refusal by its number
abbrev pub reading_by : {A E : Type 0} → (E → ℕ) → Result A E → Reading A
reading_by number (Ok a) = accepted a
reading_by number (Err why) = refused (number why)

-- a term's refusals are 1 to 4
abbrev pub term_reading : {A : Type 0} → Result A TermRefusal → Reading A
term_reading r = reading_by term_number r

abbrev pub reading_of : {A : Type 0} → Result A Refusal → Reading A
reading_of r = reading_by refusal_number r

-- accepted, whatever the value is
abbrev pub done : {A : Type 0} → Reading A → Reading (Unit {0})
done (accepted a) = accepted tt
done (refused r) = refused r

-- what a call that gives no value but Ok answers
abbrev pub answer_of : Result (Unit {0}) Refusal → Answer
answer_of (Ok u) = Yes
answer_of (Err why) = Refused (refusal_number why)

-- what a call that writes so many bytes answers
abbrev pub written_of : Result ℕ Refusal → Answer
written_of (Ok length) = Written length
written_of (Err why) = Refused (refusal_number why)

-- such a call's answer, and the lent buffer afterwards
abbrev pub outcome_of : Result ℕ Refusal → List ℕ → Outcome
outcome_of r after = record { answer = written_of r; buffer = after }

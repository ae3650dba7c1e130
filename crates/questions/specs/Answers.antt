-- What each case of a question and of an answer stands for in document 01, "Acts-for question" and "Flows-to question".
-- Assumes nothing: these are definitions.
use Rattle.std.specs.Prelude.{Option, Some, None, Result, Ok, Err}
use Rattle.model.specs.Terms.{Term}
use Rattle.model.specs.Grants.{Under}
use Rattle.model.specs.Ledgers.{Ledger}
use Rattle.model.specs.Questions.{acts_for_under, flows_to_under}
use Rattle.model.specs.Answers as model
use Rattle.words.specs.FourWords.{side_of}
use Rattle.refusals.specs.declared.Refusal.{Refusal}
use Rattle.refusals.specs.Numbers.{refusal_number}
use Rattle.questions.specs.declared.Refuter.{Refuter}
use Rattle.questions.specs.declared.Relation.{Relation}
use Rattle.questions.specs.declared.Relation.TheVariants.{ActsFor, FlowsTo}

-- yes, where none refutes; no, with the side and the coalition that refutes; or the refusal's number
abbrev pub answer_of : Result (Option Refuter) Refusal → model.Answer
answer_of (Ok None) = model.Yes
answer_of (Ok (Some r)) = model.No (side_of r.side) r.coalition
answer_of (Err why) = model.Refused (refusal_number why)

-- what the question answers of a ledger and a label
abbrev pub relation_of : Relation → Ledger → Under → Term → Term → model.Answer
relation_of ActsFor = acts_for_under
relation_of FlowsTo = flows_to_under

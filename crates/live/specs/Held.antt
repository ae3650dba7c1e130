-- How a live ledger is held, in its head, its bytes and its numbers, and what a call does to them (document 02, K5). Assumes nothing: these are definitions.
use Rattle.std.specs.Prelude.{◌≡◌, List, [], ℕ, Result, Ok, Err, length, take, drop}
use Rattle.model.specs.Bytes.{field}
use Rattle.model.specs.Readings.{accepted, refused}
use Rattle.model.specs.Terms.{Term}
use Rattle.model.specs.Answers as model
use Rattle.model.specs.Live as model_live
use Rattle.model.specs.Live.{make, acts_for_live, flows_to_live, Call, step, Good}
use Rattle.questions.specs.declared.Relation.{Relation}
use Rattle.questions.specs.declared.Relation.TheVariants.{ActsFor, FlowsTo}
use Rattle.blocks.specs.Front.{end_of, Kept}
use Rattle.counting.specs.declared.Asked.{Asked}
use Rattle.stored.specs.Stored.{Stored}
use Rattle.live.specs.declared.Live.{Live}
use Rattle.refusals.specs.declared.Refusal.{Refusal}
use Rattle.refusals.specs.Numbers.{refusal_number}

-- what the question answers
abbrev pub live_of : Relation → model_live.Live → Term → Term → model.Answer
live_of ActsFor = acts_for_live
live_of FlowsTo = flows_to_live

-- What is asked is asked of a ledger of so many grants, under what the head has.
pub record AskedOf (live : Live) (ledger : List ℕ) (grants : ℕ) (asked : Asked) : Type 0 where
  pub ledger_is : asked.ledger.now ≡ ledger
  pub sizes : asked.sizes ≡ record { names = live.names; grants = grants }
  pub label : asked.label.now ≡ field 0 live.codes live.label
  pub day : asked.day ≡ live.day

-- A head, bytes and numbers hold a live ledger: the bytes begin with its written ledger, and all 896 words are those of its numbers.
pub record Holds (live : Live) (ledger planes : List ℕ) (x : model_live.Live) : Type 0 where
  pub names : live.names ≡ x.asked.names
  pub day : live.day ≡ x.asked.day
  pub held : live.held ≡ length x.blocks
  pub label : take live.codes live.label ≡ x.label
  pub good : Good x
  pub kept : Kept ledger x.asked.names x.blocks
  pub numbers : Stored x.asked.names planes x.numbers

-- done, or the refusal's number
abbrev pub reply_of : Result Live Refusal → model.Answer
reply_of (Ok next) = model.Yes
reply_of (Err why) = model.Refused (refusal_number why)

-- the head afterwards: where the call is refused it stays as it was
abbrev pub head_after : Live → Result Live Refusal → Live
head_after live (Ok next) = next
head_after live (Err why) = live

-- The reply is the step's; what is held afterwards is what the step leads to; bytes behind its written ledger are as they were.
pub record Stepped (call : Call) (x : model_live.Live) (live : Live) (before : List ℕ) (result : Result Live Refusal) (ledger planes : List ℕ) : Type 0 where
  pub reply_is : reply_of result ≡ (step call x).reply
  pub next_held : Holds (head_after live result) ledger planes (step call x).next
  pub later : drop (end_of (step call x).next.blocks) ledger ≡ drop (end_of (step call x).next.blocks) before

-- Bytes and numbers are as they were.
pub record Unaltered (ledger planes ledger' planes' : List ℕ) : Type 0 where
  pub same_ledger : ledger' ≡ ledger
  pub same_planes : planes' ≡ planes

-- What making a live ledger gives: one that is held, the bytes behind its block 0 being as they were; or the refusal.
pub record Made (n : ℕ) (label : List ℕ) (day : ℕ) (before : List ℕ) (result : Result Live Refusal) (ledger planes : List ℕ) : Type 0 where
  pub made : (x : model_live.Live) → make n label day ≡ accepted x → (live : Live) × (result ≡ Ok live) × Holds live ledger planes x × (drop (end_of []) ledger ≡ drop (end_of []) before)
  pub not_made : (r : ℕ) → make n label day ≡ refused r → reply_of result ≡ model.Refused r

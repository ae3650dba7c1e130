-- The head of a live ledger as C keeps it: four numbers and a text (document 02, K5). Assumes nothing: these are definitions.
use Rattle.std.specs.Prelude.{◌≡◌, List, ℕ, ◌%◌, ◌<◌, drop, get_or, Result, Ok, Err}
use Rattle.model.specs.Answers.{number}
use Rattle.model.specs.Live as model
use Rattle.model.specs.Live.{Call, step}
use Rattle.blocks.specs.Front.{end_of}
use Rattle.live.specs.declared.Live.{Live}
use Rattle.refusals.specs.declared.Refusal.{Refusal}
use Rattle.live.specs.Held.{Holds, reply_of}

-- names, day, grants held, codes of the label; and the label
abbrev pub head_of : List ℕ → List ℕ → Live
head_of head text = record { names = get_or head 0 0 % 256; day = get_or head 1 0 % 4294967296; held = get_or head 2 0; codes = get_or head 3 0; label = text }

-- The number is the reply's; a head that was given is kept, and where the call was refused the old one is.
pub record Replied (head text : List ℕ) (reply : Result Live Refusal) (r : ℕ) (head' text' : List ℕ) : Type 0 where
  pub number_is : r ≡ number (reply_of reply)
  pub done : (live : Live) → reply ≡ Ok live → live.names < 256 → live.day < 4294967296 → head_of head' text' ≡ live
  pub refused : (why : Refusal) → reply ≡ Err why → (head' ≡ head) × (text' ≡ text)

-- The number is that of the step's reply; what C keeps holds the live ledger that the step leads to; bytes behind its written ledger are as they were.
pub record LentStepped (call : Call) (x : model.Live) (before : List ℕ) (r : ℕ) (head text ledger numbers : List ℕ) : Type 0 where
  pub number_is : r ≡ number (step call x).reply
  pub next_held : Holds (head_of head text) ledger numbers (step call x).next
  pub later : drop (end_of (step call x).next.blocks) ledger ≡ drop (end_of (step call x).next.blocks) before

-- Nothing that C lent is altered.
pub record LentUnaltered (head text ledger numbers head' text' ledger' numbers' : List ℕ) : Type 0 where
  pub same_head : head' ≡ head
  pub same_text : text' ≡ text
  pub same_ledger : ledger' ≡ ledger
  pub same_numbers : numbers' ≡ numbers

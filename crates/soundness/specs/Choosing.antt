-- Which grants are chosen once a ledger and a label are read: those that count (document 01, "Grants that count"). Assumes nothing: these are definitions.
use Rattle.std.specs.Prelude.{List, ℕ, Result, Ok, Err}
use Rattle.model.specs.Readings.{Reading, accepted, refused, and_then}
use Rattle.model.specs.Ledgers.{read_book}
use Rattle.refusals.specs.declared.Refusal.{Refusal}
use Rattle.refusals.specs.Numbers.{refusal_number}
use Rattle.ledgers.specs.declared.Sizes.{Sizes}
use Rattle.ledgers.specs.Readings.{book_sizes}
use Rattle.counting.specs.Counted.{counted_in}
use Rattle.soundness.specs.declared.Chosen.{Chosen}

-- a ledger's bytes, its sizes, and the bits of the grants that are chosen
pub record Choice : Type 0 where
  pub ledger : List ℕ
  pub sizes : Sizes
  pub bits : ℕ

-- what the code's values stand for
abbrev pub choice_of : Chosen → Choice
choice_of c = record { ledger = c.ledger.now; sizes = c.sizes; bits = c.bits }

abbrev pub choice_reading : Result Chosen Refusal → Reading Choice
choice_reading (Ok c) = accepted (choice_of c)
choice_reading (Err why) = refused (refusal_number why)

-- of bytes with these sizes, the grants that count under the label on the day
abbrev pub counting_of : List ℕ → List ℕ → ℕ → Sizes → Choice
counting_of ledger label day s = record { ledger = ledger; sizes = s; bits = counted_in ledger s.names s.grants label day }

-- the ledger's refusals, then the label's, and then these
abbrev pub counting_read : List ℕ → List ℕ → ℕ → Reading Choice
counting_read ledger label day = and_then (book_sizes (read_book ledger label day)) (λ s. accepted (counting_of ledger label day s))

-- What the readers' answers come to (document 01, "The ledger" and "Refusals by operation"). Assumes nothing: these are definitions.
use Rattle.std.specs.Prelude.{◌≡◌, ◌&&◌, List, ℕ, length}
use Rattle.model.specs.Readings.{Reading, accepted, and_then, require}
use Rattle.model.specs.Dates.{date_or_none, in_order}
use Rattle.model.specs.Ledgers.{Ledger, read_ledger, Book}
use Rattle.ledgers.specs.declared.Sizes.{Sizes}

-- a grant's days: 84, then 85
unfoldable pub days_reading : ℕ → ℕ → Reading (Unit {0})
days_reading first last = require (date_or_none first && date_or_none last) 84 (require (in_order first last) 85 (accepted tt))

-- a ledger's number of names and of grants
abbrev pub sizes_of : Ledger → Sizes
sizes_of l = record { names = l.names; grants = length l.grants }

-- of an accepted ledger, its sizes
abbrev pub sizes : Reading Ledger → Reading Sizes
sizes r = and_then r (λ l. accepted (sizes_of l))

-- of a ledger asked under a label likewise
abbrev pub book_sizes : Reading Book → Reading Sizes
book_sizes r = and_then r (λ b. accepted (sizes_of b.ledger))

-- The bytes are a ledger of n names and `grants` grants.
pub record LedgerOf (bytes : List ℕ) (n grants : ℕ) (l : Ledger) : Type 0 where
  pub is : read_ledger bytes ≡ accepted l
  pub names : n ≡ l.names
  pub count : grants ≡ length l.grants

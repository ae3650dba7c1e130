-- The outcome of an extract call, as its refusals are met in their order: 86, 51, the ledger's, the label's. Assumes nothing.
use mathlib.Core.Path.{◌≡◌, ap₂}
use mathlib.Core.Bool.{true, false}
use mathlib.Core.List.{List, ◌++◌}
use Prim.Native.Nat.{ℕ}
use lib.ListN.{length}
use borrow.Author.Tests.{eq-eqb, ne_eqb}
use Rattle.model.specs.Readings.{accepted, refused}
use Rattle.model.specs.Coalitions.{Marks}
use Rattle.model.specs.Dates.{real_date}
use Rattle.model.specs.Grants.{Under}
use Rattle.model.specs.Ledgers.{Ledger, read_book}
use Rattle.model.specs.Answers.{Yes, Refused, Outcome}
use Rattle.model.specs.Questions.{sound_under}
use Rattle.model.specs.Extracts.{table, extract_of, extract}
use Rattle.extracts.specs.Halves.{Halves}

module _ (ledger label : List ℕ) (day : ℕ) (buffer : List ℕ) where
  -- a refused call leaves the buffer as it was
  abbrev kept : ℕ → Outcome
  kept r = record { answer = Refused r; buffer = buffer }

  pub day_refused : real_date day ≡ false → kept 86 ≡ extract ledger label day buffer
  unfolding extract extract_of
  day_refused e = rw e

  pub size_refused : real_date day ≡ true → (length buffer ≡ 1024 → ⊥) → kept 51 ≡ extract ledger label day buffer
  unfolding extract extract_of
  size_refused real h = rw (real, ne_eqb (length buffer) 1024 h)

  module _ (real : real_date day ≡ true) (fits : length buffer ≡ 1024) where
    pub book_refused : (r : ℕ) → read_book ledger label day ≡ refused r → kept r ≡ extract ledger label day buffer
    unfolding extract extract_of
    book_refused r e = rw (real, eq-eqb (length buffer) 1024 fits, e)

    pub table-written : (l : Ledger) (u : Under) (bytes : List ℕ) → read_book ledger label day ≡ accepted (record { ledger = l; asked = u }) → bytes ≡ table l.names (sound_under l u)
        → record { answer = Yes; buffer = bytes } ≡ extract ledger label day buffer
    unfolding extract extract_of
    table-written l u bytes e t = rw (real, eq-eqb (length buffer) 1024 fits, e, t)

-- the two halves are the table
pub halves_table : {n : ℕ} {S : Marks} {see change : List ℕ} → Halves n S see change → see ++ change ≡ table n S
unfolding table
halves_table h = ap₂ (λ (l m : List ℕ). l ++ m) h.see_half h.change_half

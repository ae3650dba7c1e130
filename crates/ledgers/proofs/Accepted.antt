-- What a caller of the ledger reader knows from its result. Assumes nothing.
use Rattle.std.specs.Prelude.{ℕ, ◌+◌, List, length, Result, Ok, Err}
use mathlib.Core.Path.{◌≡◌, refl, sym, ap, ◌∙◌}
use Rattle.model.specs.Readings.{Reading, accepted, refused, and_then, from}
use Rattle.model.specs.Terms.{Term, read_term}
use Rattle.model.specs.Grants.{under, read_under}
use Rattle.model.specs.Ledgers.{Ledger, read_ledger, Book, read_book}
use Rattle.model.proofs.Stands.{LedgerStands, ledger_stands}
use Rattle.refusals.specs.declared.Refusal.{Refusal}
use Rattle.refusals.specs.Numbers.{refusal_number}
use Rattle.refusals.specs.Results.{reading_of}
use Rattle.ledgers.specs.declared.Sizes.{Sizes}
use Rattle.ledgers.specs.Readings.{sizes, book_sizes, LedgerOf}

-- An accepted list of bytes is a ledger of these sizes, and each grant's terms stand in its block: no second reading is needed.
pub record AcceptedLedger (bytes : List ℕ) (s : Sizes) : Type 0 where
  pub ledger : Ledger
  pub of : LedgerOf bytes s.names s.grants ledger
  pub stands : LedgerStands bytes ledger

module _ (bytes : List ℕ) (r : Result Sizes Refusal) (e : reading_of r ≡ sizes (read_ledger bytes)) where
  pub accepted_ledger : (s : Sizes) → r ≡ Ok s → AcceptedLedger bytes s
  accepted_ledger s h = by (read_ledger bytes) refl (sym (ap reading_of h) ∙ e)
    where
      by : (a : Reading Ledger) → read_ledger bytes ≡ a → accepted s ≡ sizes a → AcceptedLedger bytes s
      by (accepted l) f g =
          let names : s.names ≡ l.names = cc in
          let count : s.grants ≡ length l.grants = cc in
          record { ledger = l; of = record { is = f; names = names; count = count }; stands = ledger_stands bytes l f }
      by (refused k) f g = cc

  -- a refusal that the code hands back is document 01's
  pub refused_ledger : (why : Refusal) → r ≡ Err why → read_ledger bytes ≡ refused (refusal_number why)
  refused_ledger why h = by (read_ledger bytes) (sym (ap reading_of h) ∙ e)
    where
      by : (a : Reading Ledger) → refused (refusal_number why) ≡ sizes a → a ≡ refused (refusal_number why)
      by (accepted l) f = cc
      by (refused k) f = cc

-- ---- a ledger and a label

-- an accepted ledger of n names and k grants, and an accepted label
pub record AcceptedBook (ledger label : List ℕ) (n k : ℕ) : Type 0 where
  pub book : Ledger
  pub L : Term
  pub of : LedgerOf ledger n k book
  pub label_is : read_term n label ≡ accepted L
  pub is : (day : ℕ) → read_book ledger label day ≡ accepted (record { ledger = book; asked = under n L day })

module _ (ledger label : List ℕ) where
  book_is : (n k : ℕ) (l : Ledger) (L : Term) → LedgerOf ledger n k l → read_term n label ≡ accepted L → (day : ℕ) → read_book ledger label day ≡ accepted (record { ledger = l; asked = under n L day })
  unfolding read_book
  book_is n k l L of e day = rw (of.is, ← of.names, e)

  -- both were read with this result
  module _ (day : ℕ) (r : Result Sizes Refusal) (e : reading_of r ≡ book_sizes (read_book ledger label day)) where
    pub accepted_book : (s : Sizes) → r ≡ Ok s → AcceptedBook ledger label s.names s.grants
    unfolding read_book
    accepted_book s h = on (read_ledger ledger) refl (sym (ap reading_of h) ∙ e)
      where
        on_label : (l : Ledger) → read_ledger ledger ≡ accepted l → (a : Reading Term) → read_term l.names label ≡ a
            → accepted s ≡ book_sizes (and_then (and_then (from 40 a) (λ L. accepted (under l.names L day))) (λ u. accepted (record { ledger = l; asked = u }))) → AcceptedBook ledger label s.names s.grants
        on_label l is (accepted L) f g =
            let names : s.names ≡ l.names = cc in
            let count : s.grants ≡ length l.grants = cc in
            let of : LedgerOf ledger s.names s.grants l = record { is = is; names = names; count = count } in
            let term : read_term s.names label ≡ accepted L = rw names f in
            record { book = l; L = L; of = of; label_is = term; is = book_is s.names s.grants l L of term }
        on_label l is (refused k) f g = cc

        on : (a : Reading Ledger) → read_ledger ledger ≡ a
            → accepted s ≡ book_sizes (and_then a (λ l. and_then (read_under l.names label day) (λ u. accepted (record { ledger = l; asked = u })))) → AcceptedBook ledger label s.names s.grants
        on (accepted l) f g = on_label l f (read_term l.names label) refl g
        on (refused k) f g = cc

    pub refused_book : (why : Refusal) → r ≡ Err why → read_book ledger label day ≡ refused (refusal_number why)
    refused_book why h = by (read_book ledger label day) (sym (ap reading_of h) ∙ e)
      where
        by : (a : Reading Book) → refused (refusal_number why) ≡ book_sizes a → a ≡ refused (refusal_number why)
        by (accepted b) f = cc
        by (refused k) f = cc

  -- ---- what the code that reads both gives
  pub book_ledger : (day k : ℕ) → read_ledger ledger ≡ refused k → refused k ≡ book_sizes (read_book ledger label day)
  unfolding read_book
  book_ledger day k e = rw e

  module _ (day : ℕ) (s : Sizes) (l : AcceptedLedger ledger s) where
    pub book_label : (k : ℕ) → read_term s.names label ≡ refused k → refused (40 + k) ≡ book_sizes (read_book ledger label day)
    unfolding read_book
    book_label k e = rw (l.of.is, ← l.of.names, e)

    pub book_both : (L : Term) → read_term s.names label ≡ accepted L → accepted s ≡ book_sizes (read_book ledger label day)
    book_both L e = rw (book_is s.names s.grants l.ledger L l.of e day, ← l.of.names, ← l.of.count)

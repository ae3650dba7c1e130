-- What the promises come to where the bytes are an accepted ledger, for the bits of any test of a grant. Assumes nothing.
use mathlib.Core.Path.{◌≡◌, refl, sym, ap, ap₂, ◌∙◌}
use Rattle.std.specs.Prelude.{Result, Ok, Err}
use mathlib.Core.Bool.{Bool, cond}
use mathlib.Core.List.{List, [], ◌∷◌, ◌++◌}
use Prim.Native.Nat.{ℕ, zero, suc, ◌≤◌, ◌<◌}
use native.Mathlib.Omega.{arith}
use lib.ListN.{length, take, get_or}
use lib.Seq.{take_all}
use Rattle.model.specs.Sides.{Side}
use Rattle.model.specs.Readings.{Reading, accepted, refused, and_then}
use Rattle.model.specs.Coalitions.{member}
use Rattle.model.specs.Terms.{Term, read_term}
use Rattle.model.specs.Grants.{under, counts_under, sound_of, Grant, chosen, counting}
use Rattle.model.specs.Ledgers.{Ledger, Book, read_ledger, read_book}
use Rattle.model.specs.Questions.{sound_under}
use Rattle.model.specs.Testing.{test_of, test_under}
use Rattle.model.specs.Meanings.{grant_bits}
use Rattle.model.proofs.Prefixes.{of_grant-get_or, bits_say, chosen_more}
use Rattle.model.proofs.Stands.{ledger_stands}
use Rattle.refusals.specs.declared.Refusal.{Refusal}
use Rattle.refusals.specs.Numbers.{refusal_number}
use Rattle.refusals.specs.Results.{reading_of}
use Rattle.ledgers.specs.declared.Sizes.{Sizes}
use Rattle.ledgers.specs.Readings.{LedgerOf, book_sizes}
use Rattle.ledgers.proofs.Accepted.{AcceptedBook, accepted_book, refused_book}
use Rattle.counting.specs.Counted.{grant_in, counted_in}
use Rattle.counting.proofs.Standing.{no_grant, grant_in_lem}
use Rattle.counting.proofs.Accepted.{counted_in_lem}
use Rattle.soundness.specs.declared.Chosen.{Chosen}
use Rattle.soundness.specs.Choosing.{Choice, choice_of, choice_reading, counting_of, counting_read}
use Rattle.soundness.specs.Keeping.{chosen_in, sound_in}
use Rattle.soundness.specs.Testing.{test_in}

-- the grants of these bits are those at which the test holds
chosen_in_lem : (bytes : List ℕ) (grants : ℕ) (l : Ledger) (f : Grant → Bool) → read_ledger bytes ≡ accepted l → grants ≡ length l.grants
    → chosen_in bytes grants (grant_bits f l.grants) ≡ chosen f l.grants
unfolding chosen_in chosen
chosen_in_lem bytes grants l f is count = first grants (omega arith) ∙ rw (take_all grants l.grants (omega arith))
  where
    grant_at : ℕ → Grant
    grant_at k = get_or l.grants k no_grant

    each : (k : ℕ) → k < grants → cond (member k (grant_bits f l.grants)) (grant_in bytes k ∷ []) [] ≡ cond (f (grant_at k)) (grant_at k ∷ []) []
    each k b =
        ap₂ (λ (on : Bool) (g : Grant). cond on (g ∷ []) [])
        (bits_say f l.grants k (ledger_stands bytes l is).count_most ∙ of_grant-get_or f l.grants k no_grant (omega arith))
        (grant_in_lem bytes l k no_grant is (omega arith))

    first : (k : ℕ) → k ≤ grants → chosen_in bytes k (grant_bits f l.grants) ≡ chosen f (take k l.grants)
    first zero b = refl
    first (suc k) b = ap₂ (λ (gs hs : List Grant). gs ++ hs) (first k (omega arith)) (each k (omega arith)) ∙ sym (chosen_more f l.grants k no_grant (omega arith))

module _ (bytes label : List ℕ) (day n grants counted : ℕ) (l : Ledger) (L : Term) (of : LedgerOf bytes n grants l) (e : read_term n label ≡ accepted L) (is : counted ≡ counted_in bytes n grants label day) where
  -- with the bits of the grants that count under a label on a day, they are these
  chosen-counted : chosen_in bytes grants counted ≡ counting (under n L day) l.grants
  chosen-counted = rw (is ∙ counted_in_lem bytes n grants l of L label day e) (chosen_in_lem bytes grants l (counts_under (under n L day)) of.is of.count)

  -- so the coalitions that keep them are the sound ones
  pub sound-counted : (s : Side) (c : ℕ) → sound_in bytes grants counted s c ≡ sound_under l (under n L day) s c
  unfolding sound_in sound_under
  sound-counted s c = ap (λ (gs : List Grant). sound_of gs s c) chosen-counted

  -- and the test of a coalition is document 02's
  pub test-counted : (s : Side) (c : ℕ) → test_in bytes grants counted s c ≡ test_under l (under n L day) s c
  unfolding test_in test_under
  test-counted s c = ap (λ (gs : List Grant). test_of gs s c) chosen-counted

-- ---- the grants that count, chosen

-- the ledger and the label are accepted, and what is chosen are its grants that count
pub record ChosenCounting (ledger label : List ℕ) (day : ℕ) (c : Chosen) : Type 0 where
  pub book : AcceptedBook ledger label c.sizes.names c.sizes.grants
  pub ledger_is : c.ledger.now ≡ ledger
  pub bits_are : c.bits ≡ counted_in ledger c.sizes.names c.sizes.grants label day

module _ (ledger label : List ℕ) (day : ℕ) where
  module _ (r : Result Chosen Refusal) (e : choice_reading r ≡ counting_read ledger label day) where
    pub chosen_accepted : (c : Chosen) → r ≡ Ok c → ChosenCounting ledger label day c
    chosen_accepted c h = by (book_sizes (read_book ledger label day)) refl (sym (ap choice_reading h) ∙ e)
      where
        by : (a : Reading Sizes) → book_sizes (read_book ledger label day) ≡ a → choice_reading (Ok c) ≡ and_then a (λ s. accepted (counting_of ledger label day s)) → ChosenCounting ledger label day c
        by (accepted s) f g =
            let same : choice_of c ≡ counting_of ledger label day s = cc in
            let sizes : c.sizes ≡ s = ap (λ (x : Choice). x.sizes) same in
            record {
              book = accepted_book ledger label day (Ok c.sizes) (ap accepted sizes ∙ sym f) c.sizes refl;
              ledger_is = ap (λ (x : Choice). x.ledger) same;
              bits_are = ap (λ (x : Choice). x.bits) same ∙ ap (λ (x : Sizes). counted_in ledger x.names x.grants label day) (sym sizes);
            }
        by (refused k) f g = cc

    -- a refusal that the code hands back is document 01's
    pub chosen_refused : (why : Refusal) → r ≡ Err why → read_book ledger label day ≡ refused (refusal_number why)
    chosen_refused why h = by (read_book ledger label day) (sym (ap choice_reading h) ∙ e)
      where
        by : (a : Reading Book) → refused (refusal_number why) ≡ and_then (book_sizes a) (λ s. accepted (counting_of ledger label day s)) → a ≡ refused (refusal_number why)
        by (accepted b) f = cc
        by (refused k) f = cc

  -- what the code gives once both are read, or are not
  module _ (r : Result Sizes Refusal) (e : reading_of r ≡ book_sizes (read_book ledger label day)) where
    pub counting-refused : (why : Refusal) → r ≡ Err why → refused (refusal_number why) ≡ counting_read ledger label day
    counting-refused why h = rw (refused_book ledger label day r e why h)

    pub counting-chosen : (s : Sizes) → r ≡ Ok s → accepted (counting_of ledger label day s) ≡ counting_read ledger label day
    counting-chosen s h = ap (λ a. and_then a (λ s. accepted (counting_of ledger label day s))) (sym (ap reading_of h) ∙ e)

  module _ (c : Chosen) (h : ChosenCounting ledger label day c) where
    -- the coalitions that keep them are the sound ones
    pub sound_chosen : (s : Side) (d : ℕ) → sound_in c.ledger.now c.sizes.grants c.bits s d ≡ sound_under h.book.book (under c.sizes.names h.book.L day) s d
    sound_chosen s d = rw h.ledger_is (sound-counted ledger label day c.sizes.names c.sizes.grants c.bits h.book.book h.book.L h.book.of h.book.label_is h.bits_are s d)

    -- and the test of a coalition is document 02's
    pub test_chosen : (s : Side) (d : ℕ) → test_in c.ledger.now c.sizes.grants c.bits s d ≡ test_under h.book.book (under c.sizes.names h.book.L day) s d
    test_chosen s d = rw h.ledger_is (test-counted ledger label day c.sizes.names c.sizes.grants c.bits h.book.book h.book.L h.book.of h.book.label_is h.bits_are s d)

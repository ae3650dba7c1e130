-- Each answer of the short form's call, and the buffer with it, is the model's (document 01, "Short form" and its refusals; document 02, K12). Assumes nothing.
use Rattle.std.specs.Prelude.{Ok, Err}
use mathlib.Core.Path.{◌≡◌, ap₂}
use mathlib.Core.List.{List}
use Prim.Native.Nat.{ℕ, ◌≤◌, ◌<◌}
use lib.Dec.{leb}
use lib.ListN.{length}
use mathlib.Core.Bool.{true, false, ◌&&◌}
use borrow.Author.Tests.{le-leb, lt-leb}
use Rattle.model.specs.Readings.{refused}
use Rattle.model.specs.Terms.{read_term, held}
use Rattle.model.specs.ShortForms.{short_form, short_form_of, shorten}
use Rattle.refusals.specs.declared.TermRefusal.{TermRefusal}
use Rattle.refusals.specs.declared.Refusal.{Refusal}
use Rattle.refusals.specs.declared.Refusal.TheVariants.{Term, Names, Room}
use Rattle.refusals.specs.Numbers.{term_number}
use Rattle.refusals.specs.Results.{outcome_of}
use Rattle.refusals.proofs.Results.{Accepted}
use Rattle.words.specs.AnyBytes.{term_in}
use Rattle.words.proofs.AnyBytes.{term_in_lem}
use Rattle.short_forms.specs.Listings.{FrontWritten}

module _ (n : ℕ) (term buffer : List ℕ) where
  pub answer_7 : (leb 1 n && leb n 12) ≡ false → outcome_of (Err Names) buffer ≡ shorten n term buffer
  unfolding shorten short_form_of
  answer_7 e = rw e

  module _ (few : (leb 1 n && leb n 12) ≡ true) where
    pub answer_8 : length buffer < 3700 → outcome_of (Err Room) buffer ≡ shorten n term buffer
    unfolding shorten short_form_of
    answer_8 h = rw (few, lt-leb 3700 (length buffer) h)

    module _ (room : 3700 ≤ length buffer) where
      pub answer_term : (y : Refusal) → (why : TermRefusal) × (y ≡ Term why) × (read_term n term ≡ refused (term_number why)) → outcome_of (Err y) buffer ≡ shorten n term buffer
      unfolding shorten short_form_of
      answer_term y w = rw (w.1, few, le-leb 3700 (length buffer) room, w.2)

      pub answer_written : (after : List ℕ) (len : ℕ) → Accepted (read_term n term) → FrontWritten (short_form n (held (term_in term))) buffer after len
          → outcome_of (Ok len) after ≡ shorten n term buffer
      unfolding shorten short_form_of
      answer_written after len t w =
          let f = rw (term_in_lem n term t.value t.is) at w in
          rw (few, le-leb 3700 (length buffer) room, t.is) (ap₂ (λ (k : ℕ) (l : List ℕ). outcome_of (Ok k) l) f.size f.content)

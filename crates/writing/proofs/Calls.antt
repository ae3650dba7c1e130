-- The answers of the call: a law for each return. Assumes nothing.
use Prim.Native.Nat.{ℕ, ◌+◌, ◌≤◌}
use native.Mathlib.Omega.{arith}
use mathlib.Core.Path.{◌≡◌, ap, ◌∙◌}
use mathlib.Core.List.{List, ◌++◌}
use lib.ListN.{length, drop}
use borrow.Author.Tests.{eq-eqb, ne_eqb}
use Rattle.model.specs.Terms.{Term, job_size, read_term}
use Rattle.model.specs.Texts.{flat, fewest}
use Rattle.model.specs.Notation.{term_text, write_term}
use Rattle.model.proofs.Texts.{rank_most}
use Rattle.model.proofs.Bracketed.{at_most_low}
use Rattle.model.proofs.Notation.{accepted_long}
use Rattle.model.specs.Readings.{refused}
use Rattle.refusals.specs.declared.TermRefusal.{TermRefusal}
use Rattle.refusals.specs.declared.Refusal.TheVariants.{Term as RefusedTerm, Names, TextLength}
use Rattle.refusals.specs.Numbers.{term_number}
use Rattle.refusals.specs.Results.{outcome_of}
use Rattle.refusals.proofs.Results.{Accepted}
use Rattle.std.specs.Prelude.{true, false, [], Ok, Err}
use Rattle.words.specs.AnyBytes.{term_in}
use Rattle.words.proofs.AnyBytes.{term_in_lem}
use Rattle.writing.specs.Writing.{within, State, state, wrote, after_term}

module _ (n : ℕ) (cs before : List ℕ) where
  pub term_7 : job_size n ≡ false → outcome_of (Err Names) before ≡ write_term n cs before
  unfolding write_term term_text
  term_7 h = rw h

  module _ (few : job_size n ≡ true) where
    pub term_81 : (length before ≡ 256 → ⊥) → outcome_of (Err TextLength) before ≡ write_term n cs before
    unfolding write_term term_text
    term_81 h = rw (few, ne_eqb (length before) 256 h)

    module _ (e : length before ≡ 256) where
      pub term_1_to_4 : (why : TermRefusal) → read_term n cs ≡ refused (term_number why) → outcome_of (Err (RefusedTerm why)) before ≡ write_term n cs before
      unfolding write_term term_text
      term_1_to_4 why h = rw (few, eq-eqb (length before) 256 e, h)

      module _ (is : Accepted (read_term n cs)) where
        -- what the bytes stand for is the term that was read, and around it there are no brackets
        same_text : flat (within 2 (term_in cs)) ≡ flat (fewest is.value)
        same_text = ap (λ (t : Term). flat (within 2 t)) (term_in_lem n cs is.value is.is) ∙ ap flat (at_most_low 2 (fewest is.value) (rank_most (fewest is.value)))

        pub term_room : 0 + length (flat (within 2 (term_in cs))) ≤ 192
        term_room = omega (arith, ap length same_text, accepted_long n cs is.value is.is)

        -- the text that was written
        module _ (after : State) (w : after ≡ wrote (state cs []) (after_term cs) (flat (within 2 (term_in cs)))) where
          pub text_room : length after.written ≤ length before
          text_room = omega (arith, ap (λ (s : State). length s.written) w, term_room)

          pub term_text_lem : outcome_of (Ok (length after.written)) (after.written ++ drop (length after.written) before) ≡ write_term n cs before
          unfolding write_term term_text
          term_text_lem = rw (few, eq-eqb (length before) 256 e, is.is, w, same_text)

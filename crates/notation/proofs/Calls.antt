-- The answers of the call: a law for each return. Assumes nothing.
use Prim.Native.Nat.{ℕ, ◌<◌, ◌≤◌}
use mathlib.Core.Path.{◌≡◌, refl, sym, ◌∙◌}
use mathlib.Core.Bool.{true, false, ◌&&◌, false≢true}
use mathlib.Core.List.{List, [], ◌∷◌, ◌++◌, append-nil, reverse}
use lib.Dec.{eqb, leb}
use lib.ListN.{length, drop}
use borrow.Author.Tests.{eqb-true, le-leb, lt-leb}
use Rattle.std.proofs.lemmas.List.{nil_from_length}
use Rattle.model.specs.Answers.{written_front}
use Rattle.model.specs.Readings.{accepted, require, and_then}
use Rattle.model.specs.Terms.{job_size, codes}
use Rattle.model.specs.Texts.{term}
use Rattle.model.specs.Notation.{ended, no_text, read_back, text_length, whole_text, text_codes, read_text}
use Rattle.refusals.specs.declared.Refusal.TheVariants.{Names, TextLength, NoText, TextCodes}
use Rattle.refusals.specs.Results.{outcome_of}
use Rattle.notation.specs.Reading.{State, ReadOff}
use Rattle.std.specs.Prelude.{Ok, Err}

module _ (n : ℕ) (s before : List ℕ) where
  pub text_7 : job_size n ≡ false → outcome_of (Err Names) before ≡ read_text n s before
  unfolding read_text text_codes
  text_7 h = rw h

  module _ (few : job_size n ≡ true) where
    pub text_81 : (text_length (length s) && eqb (length before) 64) ≡ false → outcome_of (Err TextLength) before ≡ read_text n s before
    unfolding read_text text_codes
    text_81 h = rw (few, h)

    module _ (fits : (text_length (length s) && eqb (length before) 64) ≡ true) where
      text_at : text_codes n s (length before) ≡ and_then (whole_text (read_back n 2 (reverse s))) (λ cs. require (leb (length cs) 64) 83 (accepted cs))
      unfolding text_codes
      text_at = rw (few, fits)

      pub text_82 : read_back n 2 (reverse s) ≡ no_text → outcome_of (Err NoText) before ≡ read_text n s before
      unfolding read_text
      text_82 h = rw (text_at, h)

      module _ (after : State) (r : ReadOff (read_back n 2 (reverse s)) n [] after) where
        pub left_82 : eqb (length after.left) 0 ≡ false → outcome_of (Err NoText) before ≡ read_text n s before
        unfolding read_text
        left_82 h = rw (text_at, r.is) (refused after.left h)
          where
            refused : (left : List ℕ) → eqb (length left) 0 ≡ false → outcome_of (Err NoText) before ≡ written_front (and_then (whole_text (ended r.tree left)) (λ cs. require (leb (length cs) 64) 83 (accepted cs))) before
            refused [] h = absurd (false≢true (sym h))
            refused (x ∷ left) h = refl

        module _ (h : eqb (length after.left) 0 ≡ true) where
          whole_at : text_codes n s (length before) ≡ require (leb (length after.codes) 64) 83 (accepted after.codes)
          whole_at =
              let e : after.codes ≡ codes (term r.tree) = r.stored ∙ append-nil (codes (term r.tree)) in
              text_at ∙ rw (r.is, nil_from_length after.left (eqb-true (length after.left) 0 h), e)

          pub text_83 : 64 < length after.codes → outcome_of (Err TextCodes) before ≡ read_text n s before
          unfolding read_text
          text_83 i = rw (whole_at, lt-leb (length after.codes) 64 i)

          pub text_codes_lem : length after.codes ≤ 64 → outcome_of (Ok (length after.codes)) (after.codes ++ drop (length after.codes) before) ≡ read_text n s before
          unfolding read_text
          text_codes_lem i = rw (whole_at, le-leb (length after.codes) 64 i)

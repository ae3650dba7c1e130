-- How what stands before some places is read (document 02, K4): laws for the returns of `Reader::opening`. Assumes nothing.
use Prim.Native.Nat.{ℕ, suc, ◌+◌, ◌≤◌}
use native.Mathlib.Omega.{arith}
use mathlib.Core.Path.{◌≡◌, refl, sym, ap, ◌∙◌}
use mathlib.Core.Bool.{true, false, cond}
use mathlib.Core.List.{List, ◌∷◌, ◌++◌, append-nil}
use lib.ListN.{length}
use borrow.Author.Tests.{eq-eqb}
use Rattle.std.specs.Prelude.{Some}
use Rattle.model.specs.Terms.{count, quorate, codes}
use Rattle.model.specs.Texts.{bracket, at_least, Trees, no_place, place, places, term, terms}
use Rattle.model.specs.Notation.{ended, no_text, ends_in, no_number, read_number, on_number, bracketed, opened}
use Rattle.model.proofs.Texts.{number_told, count_terms}
use Rattle.notation.specs.Reading.{State, state, past, NumberRead, ReadBefore}
use Rattle.notation.proofs.Places.{passed_less}

module _ (many : ℕ) (before : State) where
  -- no number: one place in brackets, or none
  module _ (none : read_number before.left ≡ no_number) where
    as_bracket : (ws : Trees) → opened ws before.left ≡ bracketed ws before.left
    as_bracket ws = rw (number_told before.left, none)

    pub one_place : many ≡ 1 → length before.left + length before.codes ≤ 256 → ReadBefore (λ ws. opened ws before.left) many before before (Some tt)
    unfolding places term codes
    one_place m room no_place rest q e = absurd (omega arith)
    one_place m room (place w no_place) rest q e =
        record { tree = bracket w; is = as_bracket (place w no_place); stored = e ∙ ap (λ (l : List ℕ). l ++ rest) (append-nil (codes (term w))); same = refl; room = room }
    one_place m room (place w (place v ws)) rest q e = absurd (omega arith)

    pub other-places : (many ≡ 1 → ⊥) → (ws : Trees) → places ws ≡ many → opened ws before.left ≡ no_text
    unfolding places
    other-places m no_place q = as_bracket no_place
    other-places m (place w no_place) q = absurd (m (sym q))
    other-places m (place w (place v ws)) q = as_bracket (place w (place v ws))

  -- m, and a colon before it
  module _ (m : ℕ) (one on : State) (e : NumberRead m before one) (same : m ≡ many) (colon : ends_in 0x3A one.left ≡ true) (p : on ≡ past one) where
    as_quorum : (ws : Trees) → places ws ≡ many → opened ws before.left ≡ on_number (read_number on.left) (λ k rest. cond (quorate k m) (ended (at_least k ws) rest) no_text)
    as_quorum ws q = rw (number_told before.left, e.is, eq-eqb m (places ws) (same ∙ sym q), colon, p)

    pub no_number_lem : read_number on.left ≡ no_number → (ws : Trees) → places ws ≡ many → opened ws before.left ≡ no_text
    no_number_lem h ws q = as_quorum ws q ∙ rw h

    -- and k before that: they are three characters at least
    module _ (k : ℕ) (two : State) (f : NumberRead k on two) where
      pub out_of_range : quorate k m ≡ false → (ws : Trees) → places ws ≡ many → opened ws before.left ≡ no_text
      out_of_range h ws q = as_quorum ws q ∙ rw (f.is, h)

      numbers_read : two ≡ state before.n two.left before.codes
      numbers_read = f.same ∙ rw (p, e.same)

      pub three : length two.left + suc (suc (suc (length two.codes))) ≤ length before.left + length before.codes
      three =
          let l = passed_less 0x3A one on colon p in
          omega (arith, e.less, l.0, f.less, ap (λ (x : State). length x.codes) numbers_read)

      pub quorum_read : quorate k m ≡ true → (after : State) → after ≡ state two.n two.left (0x32 ∷ k ∷ m ∷ two.codes) → length before.left + length before.codes ≤ 256
          → ReadBefore (λ ws. opened ws before.left) many before after (Some tt)
      unfolding term codes
      quorum_read fits after a room ws rest q h =
          let c : m ≡ count (terms ws) = same ∙ sym q ∙ sym (count_terms ws) in
          rw a (record {
            tree = at_least k ws;
            is = as_quorum ws q ∙ rw (f.is, fits);
            stored = rw (ap (λ (x : State). x.codes) numbers_read, h, c);
            same = ap (λ (x : State). x.n) numbers_read;
            room = omega (arith, three);
          })

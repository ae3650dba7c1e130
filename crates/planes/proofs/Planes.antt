-- The digits of a row of numbers while they are changed one after another, and the rows beside it. Assumes nothing.
use mathlib.Core.Path.{◌≡◌, refl, sym, ap, ◌∙◌, subst}
use mathlib.Core.List.{List}
use Prim.Native.Nat.{ℕ, ◌+◌, ◌*◌, ◌<◌, ◌≤◌}
use native.Mathlib.Decide.{ℕ_discrete, dec_lt}
use native.Mathlib.Omega.{arith}
use lib.ListN.{length, set, length-set}
use Rattle.model.specs.Coalitions.{member}
use Rattle.words.specs.declared.Row.{Row}
use Rattle.words.specs.FourWords.{row_set}
use Rattle.words.proofs.FourWords.{row_cong}
use Rattle.words.proofs.Lists.{row_other, row_set_lem}
use Rattle.planes.specs.Digits.{digit_row, digit_set, Digits, Elsewhere}
use Rattle.planes.proofs.Carrying.{DigitOf}

length_row : (words : List ℕ) (g : ℕ) (x : Row) → length (row_set words g x) ≡ length words
length_row words g x =
    length-set (set (set (set words (4 * g) x.a) (4 * g + 1) x.b) (4 * g + 2) x.c) (4 * g + 3) x.d
    ∙ length-set (set (set words (4 * g) x.a) (4 * g + 1) x.b) (4 * g + 2) x.c
    ∙ length-set (set words (4 * g) x.a) (4 * g + 1) x.b ∙ length-set words (4 * g) x.a

-- A row between two sets of numbers: its digits before digit j are those of the new ones, the others those of the old.
pub record Between (planes : List ℕ) (row g : ℕ) (old new : ℕ → ℕ) (j : ℕ) : Type 0 where
  pub done : (k : ℕ) → k < j → DigitOf new k g (digit_row planes row k)
  pub left : (k : ℕ) → j ≤ k → k < 7 → DigitOf old k g (digit_row planes row k)

module _ (before : List ℕ) (row : ℕ) where
  pub else_none : Elsewhere before row before
  else_none = record { same = refl; below = λ k l. refl; above = λ k l. refl }

  pub else_more : (now : List ℕ) (j : ℕ) (x : Row) → j < 7 → Elsewhere before row now → Elsewhere before row (digit_set now row j x)
  else_more now j x small h = record {
    same = length_row now (7 * row + j) x ∙ h.same;
    below = λ k l. row_other now (7 * row + j) x k (omega arith) ∙ h.below k l;
    above = λ k l. row_other now (7 * row + j) x k (omega arith) ∙ h.above k l;
  }

-- a change elsewhere leaves a row's digits
pub digits_else : (before after : List ℕ) (row r g : ℕ) (f : ℕ → ℕ) → (r ≡ row → ⊥) → Elsewhere before row after → Digits before r g f → Digits after r g f
digits_else before after row r g f apart h d = record {
  sized = h.same ∙ d.sized;
  low = d.low;
  digit = λ j l. elim (dec_lt r row) [
    | yes b ↦ subst (DigitOf f j g) (sym (h.below (7 * r + j) (omega arith))) (d.digit j l)
    | no a ↦ subst (DigitOf f j g) (sym (h.above (7 * r + j) (omega (arith, apart)))) (d.digit j l)
  ];
}

-- numbers that agree on the row have the same digits
pub digits_cong : (planes : List ℕ) (row g : ℕ) (f h : ℕ → ℕ) → ((c : ℕ) → 256 * g ≤ c → c < 256 * g + 256 → f c ≡ h c) → Digits planes row g f → Digits planes row g h
digits_cong planes row g f h e d = record {
  sized = d.sized;
  low = d.low;
  digit = λ j l. row_cong g _ _ _ (λ c a b. ap (member j) (e c a b)) (d.digit j l);
}

module _ (row g : ℕ) (old new : ℕ → ℕ) where
  pub between_none : (planes : List ℕ) → Digits planes row g old → Between planes row g old new 0
  between_none planes h = record { done = λ k l. absurd (omega arith); left = λ k _ l. h.digit k l }

  pub between_more : (planes : List ℕ) (j : ℕ) (x : Row) → j < 7 → row < 32 → length planes ≡ 896 → DigitOf new j g x → Between planes row g old new j → Between (digit_set planes row j x) row g old new (j + 1)
  between_more planes j x small low sized e h = record {
    done = λ k l. elim (ℕ_discrete k j) [
      | yes q ↦ rw q (subst (DigitOf new j g) (sym (row_set_lem planes (7 * row + j) x (omega arith))) e)
      | no d ↦ subst (DigitOf new k g) (sym (row_other planes (7 * row + j) x (7 * row + k) (omega arith))) (h.done k (omega arith))
    ];
    left = λ k a b. subst (DigitOf old k g) (sym (row_other planes (7 * row + j) x (7 * row + k) (omega arith))) (h.left k (omega arith) b);
  }

  pub between_all : (planes : List ℕ) (j : ℕ) → 7 ≤ j → row < 32 → length planes ≡ 896 → Between planes row g old new j → Digits planes row g new
  between_all planes j all low sized h = record { sized = sized; low = low; digit = λ k l. h.done k (omega arith) }

-- Lists of rows, of which the first become others one after another. Assumes nothing.
use mathlib.Core.Path.{◌≡◌, refl, sym, ◌∙◌, subst}
use mathlib.Core.List.{List}
use Prim.Native.Nat.{ℕ, ◌+◌}
use native.Mathlib.Decide.{ℕ_discrete}
use native.Mathlib.Omega.{arith}
use lib.ListN.{set, length-set}
use lib.Seq.{get_or-set_same, get_or-set_other}
use Rattle.words.specs.declared.Row.{Row}
use Rattle.words.specs.FourWords.{same_row}
use Rattle.tables.specs.Filling.{nth_row, EachRow}

module _ (of : ℕ → Row → Row → Type 0) (before : List Row) where
  pub each_none : EachRow of 0 before before
  each_none = record { row = λ g l m. absurd (omega arith); later = λ g l. refl; same = refl }

  -- one row more
  pub each_more : (k : ℕ) (x y : Row) (now : List Row) → EachRow of k before now → nth_row now k ≡ x → of k x y → EachRow of (k + 1) before (set now k y)
  each_more k x y now d e new = record {
    row = λ g l m. elim (ℕ_discrete g k) [
      | yes q ↦ rw (q, get_or-set_same now k y (same_row 0) (omega (arith, d.same))) (subst (λ (z : Row). of k z y) (sym e ∙ d.later k (omega arith)) new)
      | no n ↦ rw (get_or-set_other now k g y (same_row 0) n) (d.row g (omega arith) (omega arith))
    ];
    later = λ g l. get_or-set_other now k g y (same_row 0) (omega arith) ∙ d.later g (omega arith);
    same = length-set now k y ∙ d.same;
  }

  pub each_weak : (also : ℕ → Row → Row → Type 0) (count : ℕ) (after : List Row) → ((g : ℕ) (x y : Row) → of g x y → also g x y) → EachRow of count before after → EachRow also count before after
  each_weak also count after h d = record { row = λ g l m. h g _ _ (d.row g l m); later = d.later; same = d.same }

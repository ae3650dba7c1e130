-- All numbers 0. Assumes nothing.
use mathlib.Core.Path.{◌≡◌, refl, sym, ◌∙◌, ap}
use mathlib.Core.Bool.{Bool, true, false, cond}
use mathlib.Core.List.{List}
use Prim.Native.Nat.{ℕ, ◌+◌, ◌*◌, ◌^◌, ◌<◌}
use native.Mathlib.Omega.{arith}
use lib.Dec.{ltb}
use lib.ListN.{length, get_or, replicate, length-replicate, get_or-replicate}
use Rattle.model.specs.Sides.{Side, confidentiality, integrity}
use Rattle.model.specs.Coalitions.{member}
use Rattle.words.specs.FourWords.{row_in, same_row}
use Rattle.words.proofs.FourWords.{row_none, row_cong}
use Rattle.planes.specs.Digits.{Digits}
use Rattle.planes.proofs.Carrying.{member_none}
use Rattle.stored.specs.Stored.{row_of, of_job, Stored}

module _ (planes : List ℕ) (clear : planes ≡ replicate 896 0) where
  word : (i : ℕ) → i < 896 → get_or planes i 0 ≡ 0
  word i l = ap (λ (x : List ℕ). get_or x i 0) clear ∙ get_or-replicate 896 i 0 0 l

  clear_row : (i : ℕ) → i < 224 → row_in planes i ≡ same_row 0
  clear_row i l = rw (word (4 * i) (omega arith), word (4 * i + 1) (omega arith), word (4 * i + 2) (omega arith), word (4 * i + 3) (omega arith))

  clear_digits : (n : ℕ) (s : Side) (row g : ℕ) → row < 32 → Digits planes row g (of_job n (λ s c. 0) s)
  clear_digits n s row g low = record {
    sized = ap length clear ∙ length-replicate {A = ℕ} 896 0;
    low = low;
    digit = λ j l. rw (clear_row (7 * row + j) (omega arith)) (row_cong g (λ c. false) _ _ (λ c _ _. sym (ap (member j) (none (ltb c (2 ^ n))) ∙ member_none j)) (row_none g));
  }
    where
      none : (b : Bool) → ◌≡◌ {A = ℕ} (cond b 0 0) 0
      none true = refl
      none false = refl

  pub clear_stored : (n : ℕ) → Stored n planes (λ s c. 0)
  clear_stored n = record { row = row }
    where
      row : (s : Side) (g : ℕ) → g < 16 → Digits planes (row_of s g) g (of_job n (λ s c. 0) s)
      row confidentiality g l = clear_digits n confidentiality g g (omega arith)
      row integrity g l = clear_digits n integrity (16 + g) g (omega arith)

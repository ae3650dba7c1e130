-- Part of the measure of the two holders of terms, which call each other at one place: the one for quorums, and the one for all codes. The one for
-- quorums goes on to the other where the code is not left over, and the other to it where it is. Assumes nothing.
use Prim.Native.Nat.{ℕ, ◌≤◌}
use native.Mathlib.Omega.{arith}
use mathlib.Core.Path.{◌≡◌}
use mathlib.Core.Bool.{true, false, cond}
use mathlib.Core.List.{List}
use lib.ListN.{get_or}
use Rattle.model.proofs.Truth.{cond_case}
use Rattle.words.specs.Evaluation.{left_over}

pub behind : List ℕ → ℕ → ℕ
behind bytes at = cond (left_over (get_or bytes at 0)) 0 2

pub behind_left_over : (bytes : List ℕ) (at : ℕ) → left_over (get_or bytes at 0) ≡ true → behind bytes at ≡ 0
unfolding behind
behind_left_over bytes at e = rw e

pub behind_other : (bytes : List ℕ) (at : ℕ) → left_over (get_or bytes at 0) ≡ false → behind bytes at ≡ 2
unfolding behind
behind_other bytes at e = rw e

pub behind_most : (bytes : List ℕ) (at : ℕ) → behind bytes at ≤ 2
unfolding behind
behind_most bytes at = cond_case (λ (x : ℕ). x ≤ 2) (left_over (get_or bytes at 0)) 0 2 (λ _. omega arith) (λ _. omega arith)

-- The loop's invariant: the digits before digit j are those of the new numbers, and what is carried into digit j.
use mathlib.Core.Bool.{Bool}
use Prim.Native.Nat.{ℕ, ◌<◌}
use Rattle.words.specs.FourWords.{RowAt}
use Rattle.planes.specs.Digits.{Digits, Elsewhere, Carrying}
use Rattle.planes.proofs.Planes.{Between}
use Rattle.planes.proofs.count.Given as goal

abbrev pub invariant-loop-j : goal.invariant-loop-j
invariant-loop-j t l = (l.row < 32) × Elsewhere l.initial.planes l.row l.planes
    × ((g : ℕ) (f h : ℕ → ℕ) (m : ℕ → Bool) (d : Carrying (λ x y z. goal.F-post t l.tells x y z) g f h m) → Digits l.initial.planes l.row g f → RowAt m g l.initial.carry
    → RowAt (d.carry l.j) g l.carry × Between l.planes l.row g f h l.j)

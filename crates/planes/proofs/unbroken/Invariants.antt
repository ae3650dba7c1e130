-- The loop's invariant: those that are left have no digit before digit j.
use mathlib.Core.Bool.{Bool}
use Prim.Native.Nat.{ℕ, ◌<◌}
use Rattle.words.specs.FourWords.{RowAt}
use Rattle.planes.specs.Digits.{Stored}
use Rattle.planes.proofs.Carrying.{BareOf}
use Rattle.planes.proofs.unbroken.Given as goal

abbrev pub invariant-loop-j : goal.invariant-loop-j
invariant-loop-j l = (l.row < 32)
    × ((g : ℕ) (f : ℕ → ℕ) (m : ℕ → Bool) → Stored l.planes l.row g f → RowAt m g l.initial.left → BareOf f m l.j g l.left)

-- What is written at most so many bytes long fits the figure of a number. Assumes nothing.
use Rattle.std.specs.Prelude.{◌≡◌, ℕ, ◌^◌, ◌≤◌, ◌<◌, Result, Ok, Err, IfOk, refl}
use native.Mathlib.Omega.{arith}
use Rattle.model.specs.Answers.{Written}
use Rattle.refusals.specs.declared.Refusal.{Refusal}
use Rattle.refusals.specs.Results.{written_of}

pub fits : (most : ℕ) (r : Result ℕ Refusal) → most < 65536 → ((k : ℕ) → written_of r ≡ Written k → k ≤ most) → IfOk r (λ k. k < 2 ^ 32)
fits most (Ok k) h few = omega (arith, few k refl)
fits most (Err why) h few = tt

-- The loop has taken away the coalitions that are marked without one of the names passed.
use mathlib.Core.Path.{◌≡◌}
use Prim.Native.Nat.{◌*◌}
use Rattle.model.specs.Coalitions.{packed}
use Rattle.short_forms.specs.Listings.{marked, irredundant}
use Rattle.short_forms.proofs.minimal_word.Given as goal

abbrev pub invariant-loop-i : goal.invariant-loop-i
invariant-loop-i l = l.found ≡ packed (irredundant l.i (marked l.marks)) (64 * l.w) 64

-- The loop has listed the words that it passed.
use mathlib.Core.Path.{◌≡◌}
use Prim.Native.Nat.{◌≤◌}
use Rattle.words.specs.Evaluation.{word_count}
use Rattle.short_forms.specs.Listings.{marked, irredundant}
use Rattle.short_forms.proofs.Sides.{SideListed}
use Rattle.short_forms.proofs.list_side.Given as goal

abbrev pub invariant-loop-w : goal.invariant-loop-w
invariant-loop-w l =
    (l.count ≡ word_count l.n) × (l.count ≤ 64) × SideListed l.n (irredundant l.n (marked l.marks)) l.initial.buffer l.buffer l.at l.w

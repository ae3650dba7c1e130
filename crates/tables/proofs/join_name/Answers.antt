use Rattle.std.proofs.Common.{rules}
use mathlib.Core.Path.{◌≡◌}
use mathlib.Core.Bool.{Bool}
use Prim.Native.Nat.{ℕ}
use Rattle.words.specs.FourWords.{RowAt}
use Rattle.model.specs.Coalitions.{member}
use Rattle.tables.specs.Filling.{joined_row, joined_mark}
use Rattle.tables.proofs.Joined.{joining_each, row_joined, name_held}
use Rattle.tables.proofs.join_name.Goals as goal

pub returns-then-i-lt8 : goal.returns-then-i-lt8
returns-then-i-lt8 c s = joining_each _ _ s _ _ _ _ _ (λ t _ f g x y _ p r.
    let low = c.low_name_row-low.result in
    let new : y ≡ joined_row c.args.joiner x low = search rules in
    name_held _ _ t f g y (rw new (row_joined c.args.joiner g f (member c.args.i) x low r (c.low_name_row-low.ensures g c.if-i-lt8.true)))) c.each.ensures

pub returns-else-i-lt8 : goal.returns-else-i-lt8
returns-else-i-lt8 c s = joining_each _ _ s _ _ _ _ _ (λ t _ f g x y _ p r.
    let new : (f : ℕ → Bool) → RowAt f g x → RowAt (λ c'. joined_mark c.args.joiner (f c') (member c.args.i c')) g y = search rules in
    name_held _ _ t f g y (new f r)) c.each-else-i-lt8.ensures

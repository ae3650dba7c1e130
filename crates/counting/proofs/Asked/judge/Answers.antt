use mathlib.Core.Path.{◌≡◌, sym, ◌∙◌}
use mathlib.Core.Bool.{true}
use Prim.Native.Nat.{◌<◌}
use native.Mathlib.Nat.{le_trans, le_of_eq}
use native.Mathlib.Omega.{arith}
use Rattle.model.specs.Coalitions.{member}
use Rattle.model.proofs.Packed.{shifted}
use Rattle.model.proofs.Monotone.{member_le}
use Rattle.counting.proofs.Knowing.{may_below, judged_yes, judged_no}
use Rattle.counting.proofs.Asked.judge.Goals as goal
use Rattle.counting.proofs.Asked.judge.Goals.{Else-not-bit_set}

-- the grant may count, so it is one of the 64, and it isn't judged
may : (c : Else-not-bit_set) → member c.args.k c.args.known.possible ≡ true
may c = sym c.may_count.ensures ∙ c.if-not-may_count.false

unjudged : (c : Else-not-bit_set) → member c.args.k c.args.known.unjudged ≡ true
unjudged c = sym c.bit_set.ensures ∙ c.if-not-bit_set.false

below : (c : Else-not-bit_set) → c.args.k < 64
below c = may_below _ c.args.known.possible (omega arith) (may c)

pub overflow_shl-bit : goal.overflow_shl-bit
overflow_shl-bit c = below c

pub overflow_sub-judged : goal.overflow_sub-judged
overflow_sub-judged c =
    let p = (goal.at.overflow_sub-judged c).Else-not-bit_set in
    le_trans (le_of_eq (shifted _ (below p))) (member_le c.args.k _ (unjudged p))

pub overflow_sub-result : goal.overflow_sub-result
overflow_sub-result c =
    let p = (goal.at.overflow_sub-result c).Else-not-bit_set in
    le_trans (le_of_eq (shifted _ (below p))) (member_le c.args.k _ (may p))

pub returns-then-counts : goal.returns-then-counts
returns-then-counts c =
    let a = c.args in
    let p = (goal.at.returns-then-counts c).Else-not-bit_set in
    judged_yes a.k a.known (may p) _ (shifted a.k (below p)) (unjudged p) _ (sym c.counts.ensures ∙ c.if-counts.true)

pub returns : goal.returns
returns c =
    let a = c.args in
    let p = (goal.at.returns c).Else-not-bit_set in
    judged_no a.k a.known (may p) _ (shifted a.k (below p)) (unjudged p) _ (sym c.counts.ensures ∙ c.if-counts.false)

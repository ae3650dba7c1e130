use Rattle.std.proofs.Common.{ℕ, ◌-◌, ◌*◌, ◌^◌, bit_and, sym, ◌∙◌, arith}
use mathlib.Core.Path.{ap₂}
use Rattle.short_forms.specs.Listings.{marked}
use Rattle.short_forms.proofs.Reduced.{marked_word, reduced_none, reduced_more, reduced_empty}
use Rattle.short_forms.proofs.minimal_word.Goals as goal

pub loop-i-init : goal.loop-i-init
loop-i-init c = marked_word _ _ (c.type_inv.marks c.args.w).fits ∙ reduced_none (marked c.args.marks.now) (64 * c.args.w) 64

pub returns-then-found-eq0 : goal.returns-then-found-eq0
returns-then-found-eq0 c = reduced_empty _ _ _ c.loop-i.i _ (omega arith) (sym c.loop-i.invariant ∙ c.if-found-eq0.true)

pub loop-i-preserved : goal.loop-i-preserved
loop-i-preserved c =
    ap₂ (λ (x y : ℕ). bit_and x (2 ^ 64 - 1 - y)) c.loop-i.invariant c.less_word.ensures ∙ reduced_more (marked c.args.marks.now) (64 * c.args.w) 64 c.loop-i.i

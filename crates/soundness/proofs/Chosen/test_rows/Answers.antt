use Rattle.std.proofs.Common.{ℕ, ◌+◌, ◌≡◌, false, arith, sym, ap₂, ◌∙◌, subst}
use Rattle.words.specs.declared.Rows.{Rows}
use Rattle.words.specs.FourWords.{empty_rows}
use Rattle.soundness.specs.declared.Kept.{Kept}
use Rattle.soundness.specs.Testing.{TestedTo}
use Rattle.soundness.proofs.Testing.{tested_none, tested_ended, tested_more, tested_skip}
use Rattle.soundness.proofs.Chosen.test_rows.Goals as goal
use Rattle.soundness.proofs.Chosen.test_rows.Goals.{then-bit_set, else-bit_set}

pub loop-k-init : goal.loop-k-init
loop-k-init c = (omega arith, λ f v. tested_none _ _ f _ _ v)

pub returns-then-none : goal.returns-then-none
returns-then-none c f v = tested_ended _ _ f _ _ _ _ (c.loop-k.invariant.1 f v) _ (omega arith) (sym c.none.ensures ∙ c.if-none.true)

pub loop-k-preserved : goal.loop-k-preserved
loop-k-preserved c =
    let a = c.args in
    let i = c.loop-k.invariant in
    let some : empty_rows c.loop-k.rows ≡ false = sym c.none.ensures ∙ c.if-none.false in
    elim c.if-bit_set.branch [
      | then-bit_set w ↦ (
        omega (arith, w.tested-is),
        λ f v. subst (λ (r : Kept). TestedTo a.self.now.ledger.now (c.loop-k.k + 1) a.self.now.bits f a.g r) (sym (ap₂ (λ (t : ℕ) (y : Rows). record { tested = t; rows = y }) w.tested-is w.rows-is))
            (tested_more _ _ f _ _ _ _ (i.1 f v) _ _ some (sym c.bit_set.ensures ∙ w.if-bit_set.true) (w.broken.ensures _ (i.1 f v).rows) w.rest-rows.ensures),
      )
      | else-bit_set w ↦ (
        omega (arith, w.tested-is),
        λ f v. subst (λ (r : Kept). TestedTo a.self.now.ledger.now (c.loop-k.k + 1) a.self.now.bits f a.g r) (sym (ap₂ (λ (t : ℕ) (y : Rows). record { tested = t; rows = y }) w.tested-is w.rows-is))
            (tested_skip _ _ f _ _ _ _ (i.1 f v) (sym c.bit_set.ensures ∙ w.if-bit_set.false)),
      )
    ]

pub returns : goal.returns
returns c f v =
    let end : c.loop-k.k ≡ c.args.self.now.sizes.grants = omega arith in
    rw end at (c.loop-k.invariant.1 f v)

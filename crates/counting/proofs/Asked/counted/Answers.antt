use Prim.Native.Nat.{◌-◌, ◌<◌}
use native.Mathlib.Omega.{arith}
use mathlib.Core.Path.{◌≡◌, ◌∙◌}
use borrow.Author.Tests.{lt-ltb, le-ltb}
use Rattle.counting.specs.Counted.{counts_in, counted_in}
use Rattle.counting.proofs.Bits.{bits_none, bits_more}
use Rattle.counting.proofs.Asked.counted.Goals as goal

pub returns-then-self-gt64 : goal.returns-then-self-gt64
unfolding counted_in
returns-then-self-gt64 c = rw (lt-ltb 64 _ c.if-self-gt64.true)

pub loop-k-init : goal.loop-k-init
loop-k-init c =
    let a = c.args in
    (omega arith, bits_none (counts_in a.self.now.ledger.now a.self.now.sizes.names a.self.now.sizes.grants a.self.now.label.now a.self.now.day) _ (λ k l. rw (le-ltb k a.self.now.sizes.grants l)))

pub loop-k-preserved : goal.loop-k-preserved
loop-k-preserved c =
    let a = c.args in
    let i = c.loop-k.invariant in
    let below : c.loop-k.k - 1 < a.self.now.sizes.grants = omega arith in (
      i.0,
      bits_more (counts_in a.self.now.ledger.now a.self.now.sizes.names a.self.now.sizes.grants a.self.now.label.now a.self.now.day) c.loop-k.k _ _ c.loop-k-test.true (omega arith) i.1
          (c.counts.ensures ∙ rw (lt-ltb (c.loop-k.k - 1) a.self.now.sizes.grants below)),
    )

pub returns : goal.returns
unfolding counted_in
returns c =
    let k : c.loop-k.k ≡ 0 = omega arith in
    rw (le-ltb 64 _ c.loop-k.invariant.0) (rw k at c.loop-k.invariant.1)

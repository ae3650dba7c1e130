use Rattle.std.proofs.Common.{◌≡◌, ◌-◌, ◌≤◌}
use mathlib.Core.Path.{sym, ◌∙◌}
use native.Mathlib.Omega.{arith}
use lib.Pow.{pow_mono}
use Prim.Native.Nat.{min}
use Rattle.words.specs.Evaluation.{row_count}
use Rattle.counting.proofs.Asked.rows_clear.Goals as goal

pub returns-then-is_voiced : goal.returns-then-is_voiced
returns-then-is_voiced c fits =
    let a = c.args in
    c.all_seen.ensures a.self.now.ledger.now a.self.now.label.now a.k _ c.hold.ensures (sym c.is_voiced.ensures ∙ c.if-is_voiced.true)

pub returns : goal.returns
returns c fits =
    let a = c.args in
    let names = a.self.now.sizes.names in
    let powers : min a.n 12 - 8 ≤ min names 12 - 8 = omega arith in
    let few : row_count a.n ≤ row_count names = pow_mono powers in
    let is : c.saturating_sub-more.result ≡ row_count names - row_count a.n = omega arith in
    rw is at (c.all_clear.ensures a.self.now.ledger.now a.self.now.label.now names a.k c.hold.ensures (rw c.term_place-place.ensures at c.hold-2.ensures) (omega arith))

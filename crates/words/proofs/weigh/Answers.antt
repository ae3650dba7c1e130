use Rattle.std.proofs.Common.{rules}
use Prim.Native.Nat.{◌+◌, ◌-◌}
use mathlib.Core.Path.{◌≡◌, ap, ◌∙◌}
use native.Mathlib.Omega.{arith}
use lib.Bits.{bit_and, bit_or}
use Rattle.words.specs.declared.Rows.{Rows}
use Rattle.words.specs.FourWords.{each_row, rows_in}
use Rattle.words.proofs.Tallies.{weighed_next, weighed_all}
use Rattle.words.proofs.weigh.Goals as goal

pub loop-j-preserved : goal.loop-j-preserved
loop-j-preserved c =
    let l = c.loop-j in
    let x = c.args.x in
    let place : l.j - 1 + 1 ≡ l.j = omega arith in
    let gained : c.each_side-gained.result ≡ each_row bit_and (rows_in l.table (l.j - 1)) x = search rules in
    let new : c.each_side.result ≡ each_row bit_or (rows_in l.table (l.j - 1 + 1)) c.each_side-gained.result = search rules in
    rw place (weighed_next l.j _ x _ _ l.table (omega arith) (omega arith) l.invariant
    (rw place at new ∙ ap (λ (y : Rows). each_row bit_or (rows_in l.table l.j) y) gained))

pub returns : goal.returns
returns c = let end : c.loop-j.j ≡ 0 = omega arith in weighed_all _ _ _ _ (rw end at c.loop-j.invariant)

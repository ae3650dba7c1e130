use Prim.Native.Nat.{◌<◌}
use native.Mathlib.Omega.{arith}
use mathlib.Core.Path.{ap}
use lib.ListN.{length}
use Rattle.model.specs.Sides.{confidentiality, integrity}
use Rattle.model.specs.Coalitions.{mark}
use Rattle.words.proofs.Names.{rows_few}
use Rattle.soundness.specs.Keeping.{sound_in}
use Rattle.extracts.proofs.Filling.{filled_start, filled_end, turn_length, turn_half}
use Rattle.extracts.proofs.mark_sound.Goals as goal
use Rattle.extracts.proofs.mark_sound.Goals.{In-loop-g}

pub loop-g-init : goal.loop-g-init
loop-g-init c =
    ((ap length c.requires.0, ap length c.requires.1), filled_start c.args.chosen.now.sizes.names _ c.args.see.now c.args.change.now c.requires.0 c.requires.1)

-- there are 16 rows at most
few : (c : In-loop-g) → c.loop-g.g < 16
few c = omega (arith, c.row_count-rows.ensures, rows_few c.args.chosen.now.sizes.names)

pub put_row-requires : goal.put_row-requires
put_row-requires c =
    omega (arith, few (goal.at.put_row-requires c).In-loop-g, c.loop-g.invariant.0.0)

pub put_row-requires-in-loop-g : goal.put_row-requires-in-loop-g
put_row-requires-in-loop-g c =
    omega (arith, few (goal.at.put_row-requires-in-loop-g c).In-loop-g, c.loop-g.invariant.0.1)

pub loop-g-preserved : goal.loop-g-preserved
loop-g-preserved c =
    let l = c.loop-g in
    let a = c.args in
    let n = a.chosen.now.sizes.names in
    let S = sound_in a.chosen.now.ledger.now a.chosen.now.sizes.grants a.chosen.now.bits in
    let h = few (goal.at.loop-g-preserved c).In-loop-g in (
      (
        turn_length l.see c.put_row.new.half l.g c.sound_row-sound.result.see h c.put_row.ensures l.invariant.0.0,
        turn_length l.change c.put_row-in-loop-g.new.half l.g c.sound_row-sound.result.change h c.put_row-in-loop-g.ensures l.invariant.0.1,
      ),
      record {
        see_half = turn_half l.see c.put_row.new.half l.g c.sound_row-sound.result.see h c.put_row.ensures (mark n (S confidentiality)) (c.sound_row-sound.ensures.row confidentiality) l.invariant.1.see_half;
        change_half = turn_half l.change c.put_row-in-loop-g.new.half l.g c.sound_row-sound.result.change h c.put_row-in-loop-g.ensures (mark n (S integrity)) (c.sound_row-sound.ensures.row integrity) l.invariant.1.change_half;
      },
    )

pub returns : goal.returns
returns c =
    let l = c.loop-g in
    filled_end c.args.chosen.now.sizes.names _ l.g l.see l.change (omega (arith, c.row_count-rows.ensures)) l.invariant.1

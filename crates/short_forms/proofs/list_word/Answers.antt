use Rattle.std.proofs.Common.{◌+◌, ◌≤◌, length, arith}
use lib.ListN.{length-take, length-drop}
use Rattle.short_forms.proofs.Bits.{NextBit}
use Rattle.short_forms.proofs.Fronts.{part_long}
use Rattle.short_forms.proofs.Sides.{word_none, word_end, word_next, word_room, word_more}
use Rattle.short_forms.proofs.list_word.Goals as goal
use Rattle.short_forms.proofs.list_word.Goals.{After-lowest-skip}

pub loop-rest-init : goal.loop-rest-init
loop-rest-init c = word_none c.args.word c.args.first c.args.buffer.now

next : (c : After-lowest-skip) → NextBit c.args.word c.args.first c.loop-rest.c c.loop-rest.rest c.lowest-skip.result
next c = word_next c.loop-rest.invariant c.ranges.word.fits c.loop-rest-test.true c.lowest-skip.ensures

pub overflow_shr-rest : goal.overflow_shr-rest
overflow_shr-rest c = (next c).near

pub overflow_add-c : goal.overflow_add-c
overflow_add-c c = omega (arith, (next c).below, c.requires)

room : (c : After-lowest-skip) → c.loop-rest.at + 2 ≤ length c.loop-rest.buffer
room c = word_room c.loop-rest.invariant (next c) c.requires.1

pub put-requires : goal.put-requires
put-requires c =
    let p = (goal.at.put-requires c).After-lowest-skip in
    simp (length-take, length-drop) (omega (arith, room p, (next p).below, c.requires))

pub overflow_add-c-in-loop-rest : goal.overflow_add-c-in-loop-rest
overflow_add-c-in-loop-rest c = omega (arith, (next (goal.at.overflow_add-c-in-loop-rest c).After-lowest-skip).below, c.requires)

pub loop-rest-preserved : goal.loop-rest-preserved
loop-rest-preserved c = word_more c.loop-rest.invariant (next (goal.at.loop-rest-preserved c).After-lowest-skip) c.put.new.buffer c.put.ensures (part_long _ _ c.loop-rest.at c.put.auto.buffer)

pub returns : goal.returns
returns c = word_end c.loop-rest.invariant c.loop-rest-test.false

use Rattle.std.proofs.Common.{◌+◌, ◌*◌, ◌≤◌, bit_and, length, arith}
use lib.ListN.{length-take, length-drop}
use lib.Pow.{pow_mono}
use Rattle.words.proofs.Names.{words_few}
use Rattle.short_forms.specs.Listings.{marked, irredundant, bits_of}
use Rattle.short_forms.proofs.Fronts.{part_long}
use Rattle.short_forms.proofs.Sides.{side_none, side_few, side_two, side_room, side_more, side_whole}
use Rattle.short_forms.proofs.list_side.Goals as goal
use Rattle.short_forms.proofs.list_side.Goals.{After-minimal_word}

pub loop-w-init : goal.loop-w-init
loop-w-init c =
    let e = c.word_count-count.ensures in
    (e, omega (arith, e, words_few c.args.n), side_none c.args.n (irredundant c.args.n (marked c.args.marks.now)) c.args.buffer.now c.requires.2)

room : (c : After-minimal_word)
    → c.loop-w.at + 2 * length (bits_of (bit_and c.low_mask.result c.minimal_word.result) (64 * c.loop-w.w)) ≤ length c.loop-w.buffer
room c = side_room c.requires.2 c.loop-w.invariant.2 c.low_mask.ensures c.minimal_word.ensures

pub list_word-at-requires : goal.list_word-at-requires
list_word-at-requires c = simp (length-take, length-drop) (omega (arith, room (goal.at.list_word-at-requires c).After-minimal_word))

pub loop-w-preserved : goal.loop-w-preserved
loop-w-preserved c =
    let l = c.loop-w in (
      l.invariant.0,
      l.invariant.1,
      side_more c.requires.2 l.invariant.2 c.low_mask.ensures c.minimal_word.ensures c.list_word-at.new.buffer c.list_word-at.result c.list_word-at.ensures (part_long _ _ l.at c.list_word-at.auto.buffer),
    )

pub put-requires : goal.put-requires
put-requires c =
    let l = c.loop-w in
    omega (arith, side_two c.requires.2 l.invariant.2, side_few c.requires.2 l.invariant.2, pow_mono c.requires.0)

pub returns : goal.returns
returns c =
    let l = c.loop-w in
    side_whole c.requires.2 l.invariant.2 c.requires.0 (omega (arith, l.invariant.0)) c.put.new.buffer c.put.ensures

use mathlib.Core.Path.{ap, ◌∙◌}
use lib.Bits.{bit_and}
use Rattle.words.specs.FourWords.{each_word}
use Rattle.questions.proofs.Refuting.{acts_rows, flows_rows}
use Rattle.questions.proofs.opposed.Goals as goal

pub returns-in-ActsFor : goal.returns-in-ActsFor
returns-in-ActsFor c p q a b =
    rw c.in-ActsFor.is
    (acts_rows _ _ _ _ _ _ _ c.low_row-mask.ensures a b _ _
    (c.both-change.ensures ∙ ap (each_word bit_and c.low_row-mask.result) c.without.ensures)
    (c.both.ensures ∙ ap (each_word bit_and c.low_row-mask.result) c.without-in-ActsFor.ensures))

pub returns-in-FlowsTo : goal.returns-in-FlowsTo
returns-in-FlowsTo c p q a b =
    rw c.in-FlowsTo.is
    (flows_rows _ _ _ _ _ _ _ c.low_row-mask.ensures a b _ _
    (c.both-change.ensures ∙ ap (each_word bit_and c.low_row-mask.result) c.without.ensures)
    (c.both-in-FlowsTo.ensures ∙ ap (each_word bit_and c.low_row-mask.result) c.without-in-FlowsTo.ensures))

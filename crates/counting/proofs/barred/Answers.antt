use mathlib.Core.Path.{ap, ◌∙◌}
use lib.Bits.{bit_or}
use Rattle.words.specs.FourWords.{each_word}
use Rattle.counting.proofs.Tests.{bars_row}
use Rattle.counting.proofs.barred.Goals as goal

pub returns : goal.returns
returns c L d g a b h p =
    bars_row L d g _ b _ _ _ (c.hidden.ensures L d.label g a b) (c.lacking.ensures d g p h) (c.either.ensures ∙ ap (each_word bit_or c.hidden.result) c.both.ensures)

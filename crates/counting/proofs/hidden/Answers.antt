use mathlib.Core.Path.{ap₂, ◌∙◌}
use lib.Bits.{bit_or}
use Rattle.words.specs.FourWords.{each_word}
use Rattle.counting.proofs.Tests.{hidden_row}
use Rattle.counting.proofs.hidden.Goals as goal

pub returns : goal.returns
returns c L d g a b = hidden_row L d g _ _ a b _ (c.either.ensures ∙ ap₂ (each_word bit_or) c.without-unseen.ensures c.without.ensures)

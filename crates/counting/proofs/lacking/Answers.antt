use mathlib.Core.Path.{ap₂, ◌∙◌}
use lib.Bits.{bit_or}
use Rattle.words.specs.FourWords.{each_word}
use Rattle.counting.proofs.Tests.{lacking_row}
use Rattle.counting.proofs.lacking.Goals as goal

pub returns : goal.returns
returns c g r a b = lacking_row g r _ _ _ a b (c.either.ensures ∙ ap₂ (each_word bit_or) c.without.ensures c.without-2.ensures)

use mathlib.Core.Path.{ap, ◌∙◌}
use Rattle.words.specs.FourWords.{each_word, lacks_word}
use Rattle.counting.proofs.unvoiced.Goals as goal

pub returns : goal.returns
returns c = c.without.ensures ∙ ap (each_word lacks_word c.args.own.change) c.both.ensures

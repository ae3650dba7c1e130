use mathlib.Core.Path.{ap, ◌∙◌}
use Rattle.words.specs.FourWords.{side_of, sided}
use Rattle.soundness.proofs.Testing.{only_rows, only_tested}
use Rattle.soundness.proofs.Chosen.test_coalition.Goals as goal

pub returns : goal.returns
returns c =
    let is = c.sided-alone.ensures ∙ ap (sided (side_of c.args.side) c.only_row.result) c.same.ensures in
    rw c.none.ensures (only_tested _ _ _ _ _ _ (c.test_rows-kept.ensures _ (rw is (only_rows _ _ _ c.only_row.ensures))))

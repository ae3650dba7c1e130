use Rattle.model.specs.Sides.{confidentiality, integrity}
use Rattle.words.proofs.FourWords.{rows_of}
use Rattle.tables.proofs.Table.hold.Goals as goal

pub returns : goal.returns
returns c g l = rows_of g _ _ _ (c.hold_sides.ensures confidentiality g l) (c.hold_sides.ensures integrity g l)

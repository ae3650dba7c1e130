use Rattle.counting.proofs.Rows.{first_cleared}
use Rattle.counting.proofs.Asked.first_clear.Goals as goal

pub returns : goal.returns
returns c = first_cleared _ _ _ _ _ (c.none_of.ensures _ c.barring.ensures)

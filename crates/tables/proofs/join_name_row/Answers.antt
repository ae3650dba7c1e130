use Rattle.tables.proofs.Joined.{row_joined}
use Rattle.tables.proofs.join_name_row.Goals as goal

pub returns : goal.returns
returns c f r = rw c.join.ensures (row_joined _ _ f _ _ _ r c.name_row.ensures)

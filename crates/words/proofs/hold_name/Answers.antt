use Rattle.words.proofs.Steps.{eval_name}
use Rattle.words.proofs.hold_name.Goals as goal

pub returns : goal.returns
returns c =
    let pre = c.requires in
    rw c.alike.ensures (eval_name _ _ _ pre.0 _ pre.1 c.name_row.ensures)

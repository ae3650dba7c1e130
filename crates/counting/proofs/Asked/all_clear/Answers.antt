use mathlib.Core.Path.{◌∙◌}
use Rattle.counting.proofs.Asked.all_clear.Goals as goal

pub returns : goal.returns
returns c = c.rows_clear.ensures c.names_needed.ensures.few ∙ c.names_needed.ensures.alike

use mathlib.Core.Path.{◌∙◌}
use Rattle.ledgers.proofs.Checks.{chunks}
use Rattle.ledgers.proofs.blocks.Goals as goal

pub returns : goal.returns
returns c = c.as_chunks.ensures.front ∙ chunks 512 _ _

use Rattle.soundness.proofs.Alone.{only_none, only_own}
use Rattle.soundness.proofs.only_word.Goals as goal

pub returns-then-c-w : goal.returns-then-c-w
returns-then-c-w c = only_own _ _ c.if-c-w.true

pub returns-else-c-w : goal.returns-else-c-w
returns-else-c-w c = only_none _ _ c.if-c-w.false

use Rattle.std.proofs.Common.{rules}
use Rattle.std.proofs.lemmas.Slice.{overwrites}
use Rattle.blocks.proofs.copy_in.Goals as goal

pub returns : goal.returns
returns c = λ h. search (rules, overwrites)

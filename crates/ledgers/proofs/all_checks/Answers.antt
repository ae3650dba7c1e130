use mathlib.Core.Path.{◌∙◌}
use Rattle.std.proofs.Common.{rules}
use Rattle.std.proofs.lemmas.Iterator.{YieldsList-from_slice}
use Rattle.std.proofs.lemmas.Iterator.Search.{all_from_yields_List}
use Rattle.checks.specs.Blocks.{whole_checked}
use Rattle.ledgers.proofs.Checks.{all_whole}
use Rattle.ledgers.proofs.all_checks.Goals as goal

pub returns : goal.returns
returns c =
    all_from_yields_List whole_checked _ _ c.all.result c.all.ensures.ran (YieldsList-from_slice c.args.blocks.now cc) (λ block b q f. search rules)
    ∙ all_whole c.args.blocks.now c.told-blocks

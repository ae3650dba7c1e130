use Rattle.std.proofs.Common.{◌≡◌, rules, replicate}
use Rattle.stored.proofs.Clearing.{clear_stored}
use Rattle.stored.proofs.clear.Goals as goal

pub returns : goal.returns
returns c = λ h n.
    let e : c.fill.new.self ≡ replicate 896 0 = search rules in
    clear_stored c.fill.new.self e n

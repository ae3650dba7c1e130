use Rattle.std.proofs.Common.{rules, ◌≡◌, ◌∙◌, ap, bit_or, fold, eqb}
use Rattle.fields.proofs.Zeros.{or_all}
use Rattle.fields.proofs.filler.Goals as goal

pub returns : goal.returns
returns c =
    let put : c.fold.result ≡ fold (λ a b. bit_or a b) 0 c.args.part.now = search rules in
    ap (λ a. eqb a 0) put ∙ or_all c.args.part.now 0

use Rattle.std.proofs.Common.{rules, tests, ◌≡◌, ◌-◌, take, drop, fold, filter, arith}
use Rattle.std.proofs.lemmas.Iterator.{YieldsList-from_slice}
use Rattle.std.proofs.lemmas.Iterator.Consumers.{fold_from_yields_List, YieldsList-from_filter}
use Rattle.counting.proofs.Few.{small, above, names_found}
use Rattle.counting.proofs.names_at.Goals as goal

pub returns : goal.returns
returns c =
    let a = c.args in
    let n = c.hold-end.result.next - a.at in
    let put : c.fold.result ≡ fold above a.least (filter small (take n (drop a.at a.codes.now))) =
    fold_from_yields_List _ above a.least _ c.fold.ensures.ran
    (YieldsList-from_filter _ small (YieldsList-from_slice (take n (drop a.at a.codes.now)) cc) c.filter.ensures.closure (λ x r q k. search (rules, tests))) (λ m x r q k. search (rules, tests)) in
    names_found _ _ _ n _ (omega (arith, c.hold-end.ensures.past)) put

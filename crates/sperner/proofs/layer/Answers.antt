use Rattle.std.proofs.Common.{rules, tests, ◌≡◌, ◌∙◌, ◌*◌, ◌%◌, ◌^◌, length, filter, eqb, arith}
use Rattle.std.specs.List.{range_with_len}
use Rattle.std.proofs.lemmas.Iterator.{YieldsList-from_range}
use Rattle.std.proofs.lemmas.Iterator.Consumers.{count_from_yields_List, YieldsList-from_filter}
use Rattle.model.specs.Layers.{size}
use Rattle.sperner.proofs.Loops.{counted_layer, power_fits}
use Rattle.sperner.proofs.layer.Goals as goal

pub returns : goal.returns
returns c =
    let a = c.args in
    let counted : c.count.result ≡ length (filter (λ x. eqb (size 64 x) a.k) (range_with_len 0 (1 * 2 ^ c.min.result % 2 ^ 64))) =
    count_from_yields_List c.filter.result _ c.count.ensures.ran
    (YieldsList-from_filter _ (λ x. eqb (size 64 x) a.k) (YieldsList-from_range 0 (1 * 2 ^ c.min.result % 2 ^ 64) (1 * 2 ^ c.min.result % 2 ^ 64) (cc) (omega arith)) c.filter.ensures.closure (λ x r q k. search (rules, tests))) in
    rw (c.min.ensures, power_fits a.n) at counted ∙ counted_layer a.n a.k

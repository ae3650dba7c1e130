use Rattle.std.proofs.Common.{rules, tests, ◌≡◌, ◌∙◌, min, fold, suc}
use Prim.Native.Nat.{max}
use Rattle.std.specs.List.{range_with_len}
use Rattle.std.proofs.lemmas.Iterator.Consumers.{fold_from_yields_List}
use Rattle.model.specs.Layers.{layer}
use Rattle.sperner.proofs.Loops.{folded_largest, YieldsList-from_inclusive}
use Rattle.sperner.proofs.largest_layer.Goals as goal

pub returns : goal.returns
returns c =
    let n = min c.args.n 12 in
    let put : c.fold.result ≡ fold (λ most k. max most (layer n k)) 0 (range_with_len 0 (suc n)) =
    fold_from_yields_List _ (λ most k. max most (layer n k)) 0 _ c.fold.ensures.ran (YieldsList-from_inclusive n c.new.result c.new.ensures.start (c.new.ensures.end ∙ c.min.ensures) c.new.ensures.exhausted) (λ most k r q h. search (rules, tests)) in
    put ∙ folded_largest n

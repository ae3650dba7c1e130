-- The first 256 bytes, and the 254 that follow, which weigh nothing where they are filler.
use Prim.Native.Nat.{ℕ, ◌+◌, ◌≤◌}
use native.Mathlib.Omega.{arith}
use mathlib.Core.Path.{◌≡◌, sym, ◌∙◌}
use mathlib.Core.List.{List}
use lib.ListN.{length, take, drop}
use Rattle.model.specs.Ledgers.{weighted}
use Rattle.checks.proofs.Sums.{weight_parts, weighted-zeros, weighted_most}
use Rattle.checks.proofs.weight.Goals as goal

-- the two parts of a block
whole : (block : List ℕ) (front rest : ℕ) → 510 ≤ length block → front ≡ weighted 0 (take 256 block) → rest ≡ weighted 256 (take 254 (drop 256 block)) → front + rest ≡ weighted 0 (take 510 block)
whole block front rest h f r = rw (f, r) (sym (weight_parts 256 254 block (omega arith)))

pub returns-then-filler : goal.returns-then-filler
returns-then-filler c =
    omega (
      arith,
      c.front_weight-front.ensures,
      weight_parts 256 254 c.args.block.now (omega arith),
      weighted-zeros 256 _ (sym c.filler.ensures ∙ c.if-filler.true),
    )

pub overflow_add-result : goal.overflow_add-result
overflow_add-result c =
    let block = c.args.block.now in
    omega (
      arith,
      whole block _ _ (omega arith) c.front_weight-front.ensures c.rest_weight.ensures,
      weighted_most 0 510 block (omega arith) (λ k. omega (arith, c.fits-block k)),
    )

pub returns : goal.returns
returns c = whole c.args.block.now _ _ (omega arith) c.front_weight-front.ensures c.rest_weight.ensures

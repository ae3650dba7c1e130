use mathlib.Core.Path.{ap, ◌∙◌}
use mathlib.Core.List.{List}
use Prim.Native.Nat.{ℕ, ◌+◌}
use Rattle.blocks.specs.Front.{counted}
use Rattle.blocks.proofs.Writing.{kept_grown}
use Rattle.blocks.proofs.append.Goals as goal

pub returns-then-block-eq512 : goal.returns-then-block-eq512
returns-then-block-eq512 c = λ blocks h e room size.
    let a = c.args in
    kept_grown a.ledger.now a.n blocks h _ a.held a.block.now (c.put_count.ensures ∙ ap (λ (l : List ℕ). counted l a.n (a.held + 1)) (c.copy_in.ensures h.sized)) e room size

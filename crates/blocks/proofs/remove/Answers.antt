use mathlib.Core.Path.{ap, ◌∙◌}
use mathlib.Core.List.{List}
use Prim.Native.Nat.{ℕ, ◌-◌}
use Rattle.blocks.specs.Front.{counted}
use Rattle.blocks.proofs.Writing.{kept_shrunk}
use Rattle.blocks.proofs.remove.Goals as goal

pub returns-then-held-le64 : goal.returns-then-held-le64
returns-then-held-le64 c = λ blocks h e below.
    let a = c.args in
    kept_shrunk a.ledger.now a.n blocks h _ a.held a.k (c.put_count.ensures ∙ ap (λ (l : List ℕ). counted l a.n (a.held - 1)) (c.move_down.ensures h.sized)) e below

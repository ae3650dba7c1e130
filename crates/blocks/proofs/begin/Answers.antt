use mathlib.Core.Path.{ap, ◌∙◌}
use mathlib.Core.List.{List}
use Prim.Native.Nat.{ℕ}
use Rattle.blocks.specs.Front.{counted}
use Rattle.blocks.proofs.Writing.{kept_new}
use Rattle.blocks.proofs.begin.Goals as goal

pub returns : goal.returns
returns c = λ sized names.
    let a = c.args in
    kept_new a.ledger.now a.n _ sized names (c.put_count.ensures ∙ ap (λ (l : List ℕ). counted l a.n 0) (c.copy_in.ensures sized))

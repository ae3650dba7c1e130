use mathlib.Core.Path.{◌≡◌, subst}
use Prim.Native.Nat.{ℕ}
use native.Mathlib.Decide.{dec_lt}
use native.Mathlib.Omega.{arith}
use Rattle.counting.specs.Counted.{NamesAt}
use Rattle.counting.proofs.Few.{needed_few, needed_all}
use Rattle.counting.proofs.Asked.names_needed.Goals as goal

pub returns : goal.returns
returns c =
    let a = c.args in
    let r = c.names_at-all.result in
    elim (dec_lt r a.self.now.sizes.names) [
      | yes h ↦ (let e : c.min.result ≡ r = omega arith in rw e (needed_few _ _ _ _ _ _ _ h c.names_at-asked.ensures
          (subst (λ (at : ℕ). NamesAt a.self.now.ledger.now at c.names_at-asked.result c.names_at-own.result) c.term_place.ensures c.names_at-own.ensures)
          (subst (λ (at : ℕ). NamesAt a.self.now.ledger.now at c.names_at-own.result c.names_at-all.result) c.term_place-2.ensures c.names_at-all.ensures)))
      | no h ↦ (let e : c.min.result ≡ a.self.now.sizes.names = omega arith in rw e (needed_all a.self.now.ledger.now _ a.k a.self.now.label.now))
    ]

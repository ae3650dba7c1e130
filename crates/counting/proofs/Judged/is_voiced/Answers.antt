use Rattle.std.proofs.Common.{rules, tests, ◌≡◌}
use Rattle.std.proofs.lemmas.Iterator.{cases_from_all, YieldsList-from_range}
use mathlib.Core.Bool.{Bool, true, false}
use Prim.Native.Nat.{ℕ}
use Rattle.counting.specs.Counted.{voiced_at}
use Rattle.counting.proofs.Rows.{all_every}
use Rattle.counting.proofs.Judged.is_voiced.Goals as goal

pub returns : goal.returns
returns c =
    let to = c.row_count.result in
    let f : ℕ → Bool = voiced_at c.args.self.now in
    rw c.row_count.ensures at (all_every f _ to
    (cases_from_all _ _ _ (λ g. f g ≡ true) (λ g. f g ≡ false) c.all.ensures.ran (YieldsList-from_range _ to to (cc) (search rules))
    (λ x q k. search (rules, tests)) (λ x q k. search (rules, tests))))

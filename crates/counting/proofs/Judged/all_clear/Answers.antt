use Rattle.std.proofs.Common.{rules, tests}
use mathlib.Core.Bool.{Bool, true, false}
use mathlib.Core.List.{List}
use Prim.Native.Nat.{ℕ, ◌+◌, ◌≤◌, ◌<◌}
use native.Mathlib.Omega.{arith}
use Rattle.std.proofs.lemmas.Iterator.{cases_from_all, YieldsList-from_range}
use Rattle.counting.specs.Counted.{grant_in, bars_with, TableOf, ClearAt, JudgedAt, AskedAt}
use Rattle.counting.specs.declared.Judged.{Judged}
use Rattle.tables.specs.declared.Table.{Table}
use Rattle.words.specs.Evaluation.{row_count}
use Rattle.model.specs.Coalitions.{mark}
use Rattle.counting.proofs.Rows.{RowClear, RowBars, told_clear, told_bars, rows_cleared}
use Rattle.counting.proofs.Judged.all_clear.Goals as goal

-- what the test of a row says of any tables, it says of these
told_row : (judged : Judged) (p : Table) (n more g : ℕ) (r : Bool) → AskedAt judged p n more g r → (ledger label : List ℕ) (names k : ℕ) → JudgedAt ledger n k label judged
    → TableOf (grant_in ledger k).p names p → row_count n + more ≤ row_count names → g < row_count n → ClearAt (mark n (bars_with ledger label k more)) g r
unfolding AskedAt
told_row judged p n more g r told ledger label names k j held_p room l = told ledger label names k j held_p l (omega arith)

pub returns : goal.returns
returns c ledger label names k' j held_p room =
    let n = c.args.n in
    let f = bars_with ledger label k' c.args.more in
    let to = c.row_count.result in
    rows_cleared f n _ to c.row_count.ensures
    (cases_from_all _ _ _ (RowClear f n) (RowBars f n) c.all.ensures.ran (YieldsList-from_range _ to to (cc) (search rules))
    (λ x q k. (search (rules, tests), told_clear f n x (told_row c.args.self.now c.args.p.now n c.args.more x true (search (rules, tests)) ledger label names k' j held_p room)))
    (λ x q k. told_bars f n x (told_row c.args.self.now c.args.p.now n c.args.more x false (search (rules, tests)) ledger label names k' j held_p room)))

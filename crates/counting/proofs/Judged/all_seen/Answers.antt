use Rattle.std.proofs.Common.{rules, tests}
use mathlib.Core.Bool.{true, false}
use Rattle.std.proofs.lemmas.Iterator.{cases_from_all, YieldsList-from_range}
use Rattle.model.proofs.Search.{every_elim}
use Rattle.words.specs.Evaluation.{row_count}
use Rattle.counting.specs.Counted.{bars_with, voiced_at, SeenAt}
use Rattle.counting.proofs.Rows.{RowClear, RowBars, told_clear, told_bars, rows_cleared}
use Rattle.counting.proofs.Judged.all_seen.Goals as goal

pub returns : goal.returns
unfolding SeenAt
returns c ledger label k' more j voiced =
    let n = c.args.n in
    let f = bars_with ledger label k' more in
    let to = c.row_count.result in
    let each = every_elim (voiced_at c.args.self.now) (row_count n) voiced in
    rows_cleared f n _ to c.row_count.ensures
    (cases_from_all _ _ _ (RowClear f n) (RowBars f n) c.all.ensures.ran (YieldsList-from_range _ to to (cc) (search rules))
    (λ x q k. (search (rules, tests), told_clear f n x (λ l. let told : SeenAt c.args.self.now n x true = search (rules, tests) in told ledger label k' more j l (each x l))))
    (λ x q k. told_bars f n x (λ l. let told : SeenAt c.args.self.now n x false = search (rules, tests) in told ledger label k' more j l (each x l))))

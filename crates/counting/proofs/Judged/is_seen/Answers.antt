use Rattle.std.specs.Prelude.{◌≡◌, ◌*◌, ◌%◌}
use native.Mathlib.Omega.{arith}
use Rattle.model.specs.Terms.{held}
use Rattle.model.specs.Grants.{marks_of}
use Rattle.words.specs.AnyBytes.{term_in}
use Rattle.words.proofs.Names.{rows_few}
use Rattle.counting.specs.Counted.{grant_in, joined_by, SeenAt}
use Rattle.counting.proofs.Tests.{bars_hidden}
use Rattle.counting.proofs.Judged.is_seen.Goals as goal

pub returns : goal.returns
unfolding SeenAt
returns c ledger label k more j l voiced =
    let g = c.args.g in
    let small : g % 16 ≡ g = omega (arith, rows_few c.args.n) in
    let own = j.own g l in
    c.none_of.ensures _
    (bars_hidden (held (term_in label)) (joined_by (256 * more) (marks_of (grant_in ledger k))) g _ own _ _ (j.q g l)
    (c.hidden.ensures _ _ g (rw (c.rows.ensures, small) (j.under g l)) (rw (c.rows-2.ensures, small) own)) (rw small at voiced))

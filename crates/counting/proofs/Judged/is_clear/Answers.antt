use Rattle.std.specs.Prelude.{◌≡◌, ◌+◌, ◌*◌, ◌%◌, ◌^◌}
use native.Mathlib.Omega.{arith}
use Rattle.model.specs.Terms.{held}
use Rattle.model.specs.Grants.{marks_of}
use Rattle.words.specs.AnyBytes.{term_in}
use Rattle.words.proofs.Names.{rows_few}
use Rattle.counting.specs.Counted.{grant_in, joined_by, AskedAt}
use Rattle.counting.proofs.Tests.{rows_further}
use Rattle.counting.proofs.Judged.is_clear.Goals as goal

pub returns : goal.returns
unfolding AskedAt
returns c ledger label names k j held_p l far =
    let a = c.args in
    let small : a.g % 16 ≡ a.g = omega (arith, rows_few a.n) in
    let at : (a.g + a.more) % 2 ^ 64 % 16 ≡ a.g + a.more = omega (arith, rows_few names) in
    c.none_of.ensures _
    (c.barred.ensures (held (term_in label)) (joined_by (256 * a.more) (marks_of (grant_in ledger k))) a.g
    (rw (c.rows.ensures, small) (j.under a.g l)) (rw (c.rows-own.ensures, small) (j.own a.g l)) (rw (c.rows-2.ensures, small) (j.q a.g l))
    (rows_further (held (grant_in ledger k).p) a.g a.more _ (rw (c.rows-further.ensures, at) (held_p (a.g + a.more) far))))

use mathlib.Core.Path.{◌≡◌, sym, ◌∙◌}
use mathlib.Core.Bool.{true}
use Rattle.model.specs.Coalitions.{member}
use Rattle.counting.specs.Counted.{grant_in}
use Rattle.questions.specs.Sieving.{counts_asked}
use Rattle.questions.proofs.Sifting.{sift_closed, sift_kept, sift_idle, sift_gone}
use Rattle.questions.proofs.Grants.sift_grant.Goals as goal
use Rattle.questions.proofs.Grants.sift_grant.Goals.{Else-not-may_count}

pub returns-then-not-may_count-clause-sifted : goal.returns-then-not-may_count-clause-sifted
returns-then-not-may_count-clause-sifted c b f h =
    let a = c.args.self.now.asked in
    sift_closed (counts_asked a) c.args.k b (grant_in a.ledger.now c.args.k) f _ _ _ h (sym c.may_count.ensures ∙ c.if-not-may_count.true)

pub returns-then-none-clause-sifted : goal.returns-then-none-clause-sifted
returns-then-none-clause-sifted c b f h =
    let a = c.args.self.now.asked in
    sift_kept (counts_asked a) c.args.k b (grant_in a.ledger.now c.args.k) f _ _ _ h _ (c.broken-gone.ensures f h.rows) (sym c.none.ensures ∙ c.if-none.true)

-- the grant may count
may : (c : Else-not-may_count) → let a = c.args in member a.k a.self.now.known.possible ≡ true
may c = sym c.may_count.ensures ∙ c.if-not-may_count.false

pub returns-then-not-may_count-2-clause-sifted : goal.returns-then-not-may_count-2-clause-sifted
returns-then-not-may_count-2-clause-sifted c b f h =
    let a = c.args.self.now.asked in
    sift_idle (counts_asked a) c.args.k b (grant_in a.ledger.now c.args.k) f _ _ _ h _ (c.broken-gone.ensures f h.rows)
    (may (goal.at.returns-then-not-may_count-2-clause-sifted c).Else-not-may_count) _ c.judge-self.ensures (sym c.may_count-2.ensures ∙ c.if-not-may_count-2.true)

pub returns-clause-sifted : goal.returns-clause-sifted
returns-clause-sifted c b f h =
    let a = c.args.self.now.asked in
    sift_gone (counts_asked a) c.args.k b (grant_in a.ledger.now c.args.k) f _ _ _ h _ (c.broken-gone.ensures f h.rows) (may (goal.at.returns-clause-sifted c).Else-not-may_count) _ c.judge-self.ensures _
    (sym c.may_count-2.ensures ∙ c.if-not-may_count-2.false) c.rest.ensures

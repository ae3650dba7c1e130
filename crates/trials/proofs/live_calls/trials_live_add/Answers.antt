use Rattle.trials.proofs.Heads.{lent_stepped, lent_unaltered}
use Rattle.trials.proofs.live_calls.trials_live_add.Goals as goal

pub returns : goal.returns
returns c =
    let a = c.args in
    let given = c.head_of.ensures in
    record {
      stepped = λ x h. lent_stepped _ x a.head.now a.text.now a.ledger.now a.numbers.now _ _ _ _ _ _ (rw given at (c.add-reply.ensures.stepped x (rw given h))) c.replied.ensures;
      refused = lent_unaltered a.head.now a.text.now a.ledger.now a.numbers.now _ _ _ _ _ _ c.add-reply.ensures.unaltered c.replied.ensures;
    }

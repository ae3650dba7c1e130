use Rattle.trials.proofs.Heads.{lent_made, lent_refused}
use Rattle.trials.proofs.live_calls.trials_live_make.Goals as goal

pub returns : goal.returns
returns c =
    let a = c.args in
    record {
      made = lent_made _ _ _ a.head.now a.text.now a.ledger.now a.numbers.now _ _ _ _ _ _ c.make.ensures.made c.replied.ensures;
      refused = lent_refused _ _ _ a.head.now a.text.now a.ledger.now a.numbers.now _ _ _ _ _ _ c.make.ensures.made c.replied.ensures c.make.ensures.unaltered;
    }

-- The rules that the ledger decides.
use mathlib.Core.Path.{◌∙◌}
use Rattle.derivations.proofs.Meeting.{static_met, grant_met}
use Rattle.derivations.proofs.Step.meets.Goals as goal

pub returns-in-Static : goal.returns-in-Static
returns-in-Static c = rw c.in-Static.is (λ l ready. static_met _ _ _ l _ _ _ ready (c.acts_statically.ensures ∙ rw (c.bytes.ensures, c.bytes-in-Static.ensures)))

pub returns-in-Granted : goal.returns-in-Granted
returns-in-Granted c = rw c.in-Granted.is (λ l ready. grant_met _ _ _ l _ _ _ ready (c.has_terms.ensures ∙ rw (c.grant_term-p.ensures, c.grant_term-q.ensures)))

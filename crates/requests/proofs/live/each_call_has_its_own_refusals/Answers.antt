use Rattle.requests.proofs.Keeping.{refusal_numbers}
use Rattle.requests.proofs.live.each_call_has_its_own_refusals.Goals as goal

pub returns : goal.returns
returns c = refusal_numbers

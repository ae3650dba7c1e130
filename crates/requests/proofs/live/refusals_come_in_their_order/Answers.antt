use Rattle.requests.proofs.Keeping.{refused_in_order}
use Rattle.requests.proofs.live.refusals_come_in_their_order.Goals as goal

pub returns : goal.returns
returns c = refused_in_order

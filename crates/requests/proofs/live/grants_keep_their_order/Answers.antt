use Rattle.requests.proofs.Keeping.{order_kept}
use Rattle.requests.proofs.live.grants_keep_their_order.Goals as goal

pub returns : goal.returns
returns c = order_kept

use Rattle.std.proofs.Common.{rules}
use Rattle.stored.proofs.Storing.{lowers}
use Rattle.stored.proofs.count_out.Goals as goal

pub returns : goal.returns
returns c f h = c.count.ensures _ _ (lowers _ _ _ f (λ x row marked y p. search rules)) h

use Rattle.std.proofs.Common.{rules}
use Rattle.stored.proofs.Storing.{raises}
use Rattle.stored.proofs.count_in.Goals as goal

pub returns : goal.returns
returns c f h = c.count.ensures _ _ (raises _ _ _ f (λ x row marked y p. search rules)) h

use Rattle.sperner.proofs.Families.{sperners_bound}
use Rattle.sperner.proofs.none_inside_another_is_at_most_a_largest_layer.Goals as goal

pub returns : goal.returns
returns c = sperners_bound

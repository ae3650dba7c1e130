use Rattle.sperner.proofs.Layers.{middle_layer_is_largest}
use Rattle.sperner.proofs.the_middle_layer_is_the_largest.Goals as goal

pub returns : goal.returns
returns c = middle_layer_is_largest

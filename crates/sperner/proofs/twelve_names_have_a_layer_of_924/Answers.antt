use Rattle.sperner.proofs.Layers.{twelve_names}
use Rattle.sperner.proofs.twelve_names_have_a_layer_of_924.Goals as goal

pub returns : goal.returns
returns c = twelve_names

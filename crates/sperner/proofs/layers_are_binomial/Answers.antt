use Rattle.sperner.proofs.Layers.{layers_are_binomial}
use Rattle.sperner.proofs.layers_are_binomial.Goals as goal

pub returns : goal.returns
returns c = layers_are_binomial

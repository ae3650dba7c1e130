-- The voice of a normal form, and that it grows with the principal.
use Rattle.algebra.proofs.Sides.{voice_of_normal_forms}
use Rattle.algebra.proofs.voice_is_definition_7.Goals as goal

pub returns : goal.returns
returns c = voice_of_normal_forms

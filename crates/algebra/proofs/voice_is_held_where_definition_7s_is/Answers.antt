-- Each side of the term that Definition 7 writes is held where q is held on that side.
use Rattle.algebra.proofs.Sides.{voice-held}
use Rattle.algebra.proofs.voice_is_held_where_definition_7s_is.Goals as goal

pub returns : goal.returns
returns c = voice-held

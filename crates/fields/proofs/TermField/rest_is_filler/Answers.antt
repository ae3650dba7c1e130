use Rattle.std.proofs.Common.{ap, ◌∙◌}
use Rattle.model.specs.Bytes.{byte, zeros}
use Rattle.fields.specs.Terms.{past_term}
use Rattle.fields.proofs.Zeros.{behind}
use Rattle.fields.proofs.TermField.rest_is_filler.Goals as goal

pub returns : goal.returns
unfolding past_term
returns c =
    let a = c.args in
    rw (c.filler.ensures, c.part.ensures, c.part-field.ensures, c.len.ensures) (ap zeros (behind a.self.at (byte a.self.length a.block.now) 64 a.block.now))

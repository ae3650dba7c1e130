use Rattle.std.proofs.Common.{◌∙◌, arith}
use Rattle.std.proofs.lemmas.Slice.{put_mid-paste}
use Rattle.extracts.proofs.WordBytes.{length_bytes, bytes_are}
use Rattle.extracts.proofs.put_word.Goals as goal

pub returns : goal.returns
returns c =
    let word = c.args.word in
    put_mid-paste _ _ _ _ _ 8 (c.copy_from_slice.ensures.after ∙ c.to_le_bytes.ensures ∙ bytes_are word) (omega arith) (omega (arith, length_bytes 8 word))

use Prim.Native.Nat.{◌^◌}
use lib.Dec.{ltb}
use Rattle.model.specs.Coalitions.{mark}
use Rattle.words.proofs.FourWords.{rows_of}
use Rattle.soundness.proofs.Chosen.sound_row.Goals as goal

pub returns : goal.returns
unfolding mark
returns c =
    let mask = c.low_row.ensures in
    let n = c.args.self.now.sizes.names in
    (c.test_rows.ensures (λ s c. ltb c (2 ^ n)) (rw c.alike-all.ensures (rows_of _ (λ s c. ltb c (2 ^ n)) _ _ mask mask))).rows

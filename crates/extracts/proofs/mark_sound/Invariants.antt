-- The loop's invariant: both halves have the marks of the first g rows.
use mathlib.Core.Path.{◌≡◌}
use lib.ListN.{length}
use Rattle.soundness.specs.Keeping.{sound_in}
use Rattle.extracts.proofs.Filling.{Filled}
use Rattle.extracts.proofs.mark_sound.Given as goal

abbrev pub invariant-loop-g : goal.invariant-loop-g
invariant-loop-g l =
    ((length l.see ≡ 512) × (length l.change ≡ 512))
    × Filled l.chosen.sizes.names (sound_in l.chosen.ledger.now l.chosen.sizes.grants l.chosen.bits) l.g l.see l.change

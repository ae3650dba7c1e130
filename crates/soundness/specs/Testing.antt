-- The test of coalitions against the grants whose bits are set, on any bytes (document 02, K3). Assumes nothing: these are definitions.
use Rattle.std.specs.Prelude.{◌≡◌, false, cond, ◌&&◌, List, ℕ, ◌+◌, ◌*◌, max, eqb}
use Rattle.model.specs.Sides.{Side, confidentiality, integrity}
use Rattle.model.specs.Coalitions.{Marks}
use Rattle.model.specs.Layers.{largest}
use Rattle.model.specs.Grants.{Grant}
use Rattle.model.specs.Testing as model
use Rattle.model.specs.Testing.{test_of}
use Rattle.words.specs.FourWords.{RowsAt}
use Rattle.soundness.specs.declared.Kept.{Kept}
use Rattle.soundness.specs.declared.Tested.{Tested}
use Rattle.soundness.specs.Keeping.{chosen_in, sound_in}

-- what the test gives
abbrev pub tested_of : Tested → model.Tested
tested_of t = record { is_sound = t.sound; tested = t.tested }

unfoldable pub test_in : List ℕ → ℕ → ℕ → Side → ℕ → model.Tested
test_in ledger grants bits = test_of (chosen_in ledger grants bits)

-- on the side the coalition alone
abbrev pub only : Side → ℕ → Marks
only confidentiality c confidentiality d = eqb d c
only confidentiality c integrity d = false
only integrity c confidentiality d = false
only integrity c integrity d = eqb d c

-- how many grants are tested for a coalition, if it is one of f
abbrev pub tested_for : List Grant → Marks → Side → ℕ → ℕ
tested_for gs f s c = cond (f s c) (test_of gs s c).tested 0

-- for those of row g together, the largest of theirs: on a side, and on both
abbrev pub most_on : List Grant → Marks → ℕ → Side → ℕ
most_on gs f g s = largest (λ j. tested_for gs f s (256 * g + j)) 256

unfoldable pub most_tested : List Grant → Marks → ℕ → ℕ
most_tested gs f g = max (most_on gs f g confidentiality) (most_on gs f g integrity)

-- Row g of those of f that keep each grant whose bit is set, and how many grants were tested.
pub record TestedTo (ledger : List ℕ) (grants bits : ℕ) (f : Marks) (g : ℕ) (kept : Kept) : Type 0 where
  pub rows : RowsAt (λ s c. f s c && sound_in ledger grants bits s c) g kept.rows
  pub count : kept.tested ≡ most_tested (chosen_in ledger grants bits) f g

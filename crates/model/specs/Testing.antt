-- Document 02, K3: the test of a coalition on a side, which ends at the first counting grant that it breaks there. Assumes nothing: these are definitions.
use Rattle.std.specs.Prelude.{ℕ, suc, Bool, true, false, cond, List, [], ◌∷◌, map}
use Rattle.model.specs.Sides.{Side}
use Rattle.model.specs.Grants.{Grant, Under, GrantMarks, marks_of, keeps, counting}
use Rattle.model.specs.Ledgers.{Ledger}

-- Whether the coalition is sound, and how many grants were tested.
pub record Tested : Type 0 where
  pub is_sound : Bool
  pub tested : ℕ

-- one grant was tested before
abbrev pub one_more : Tested → Tested
one_more t = record { is_sound = t.is_sound; tested = suc t.tested }

-- a grant that is broken is the last that is tested
abbrev pub ended : Tested
ended = record { is_sound = false; tested = 1 }

unfoldable pub test : List GrantMarks → Side → ℕ → Tested
test [] s c = record { is_sound = true; tested = 0 }
test (g ∷ gs) s c = cond (keeps g s c) (one_more (test gs s c)) ended

-- of written grants
abbrev pub test_of : List Grant → Side → ℕ → Tested
test_of gs = test (map marks_of gs)

-- of those that count under a label, on a day
unfoldable pub test_under : Ledger → Under → Side → ℕ → Tested
test_under ledger u = test_of (counting u ledger.grants)

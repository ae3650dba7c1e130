-- Document 02, K3: the test of a coalition on a side. Assumes nothing: these are the statements.
use Rattle.std.specs.Prelude.{◌≡◌, ◌↔◌, ℕ, Bool, true, false, length}
use Rattle.model.specs.Sides.{Side}
use Rattle.model.specs.Grants.{Under, counting}
use Rattle.model.specs.Ledgers.{Ledger, leave_out}
use Rattle.model.specs.Questions.{sound_under}
use Rattle.model.specs.Testing.{Tested, test_under}
use Rattle.model.specs.Meanings.{Keeps, BreaksFirst}
use Rattle.demands.specs.Extracts.{NoneCounts}

-- so many grants were tested: the last was broken, or none was
abbrev pub broken_after : ℕ → Tested
broken_after t = record { is_sound = false; tested = t }

abbrev pub sound_after : ℕ → Tested
sound_after t = record { is_sound = true; tested = t }

-- The verdict is the one that questions and extracts go by.
abbrev pub VerdictIsSoundness : Type 0
VerdictIsSoundness = (l : Ledger) (u : Under) (s : Side) (c : ℕ) → (test_under l u s c).is_sound ≡ sound_under l u s c

-- The coalition is broken, with number t, exactly if counting grant t, counted from 1, is the first that it breaks on the side; it is sound exactly if it
-- keeps all of them, and t is how many there are.
pub record EndsAtTheBrokenGrant : Type 0 where
  pub at_the_first : (l : Ledger) (u : Under) (s : Side) (c t : ℕ) → test_under l u s c ≡ broken_after t ↔ BreaksFirst (counting u l.grants) s c t
  pub after_all : (l : Ledger) (u : Under) (s : Side) (c t : ℕ) → test_under l u s c ≡ sound_after t ↔ (Keeps (counting u l.grants) s c × (t ≡ length (counting u l.grants)))

-- Leaving out grants that don't count changes no test: what is counted are not places in the ledger.
abbrev pub UncountedChangeNoTest : Type 0
UncountedChangeNoTest = (l : Ledger) (u : Under) (out : ℕ → Bool) → NoneCounts l u out
    → (s : Side) (c : ℕ) → test_under (record { names = l.names; grants = leave_out out 0 l.grants }) u s c ≡ test_under l u s c

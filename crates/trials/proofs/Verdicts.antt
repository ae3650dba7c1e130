-- The number of a coalition's test, and how it is refused. Assumes nothing.
use mathlib.Core.Path.{◌≡◌, ap, ◌∙◌}
use mathlib.Core.Bool.{true, false}
use mathlib.Core.List.{List}
use Prim.Native.Nat.{ℕ, ◌≤◌}
use native.Mathlib.Omega.{arith}
use Rattle.model.specs.Sides.{Side}
use Rattle.model.specs.Readings.{Reading, accepted, refused}
use Rattle.model.specs.Dates.{real_date}
use Rattle.model.specs.Ledgers.{read_book}
use Rattle.model.specs.Testing as model
use Rattle.model.proofs.Stands.{ledger_stands}
use Rattle.soundness.specs.declared.Chosen.{Chosen}
use Rattle.soundness.specs.declared.Tested.{Tested}
use Rattle.soundness.specs.Testing.{tested_of, test_in}
use Rattle.soundness.proofs.Accepted.{ChosenCounting, test_chosen}
use Rattle.soundness.proofs.Testing.{tested_few}
use Rattle.trials.specs.Figures.{test_on}

module _ (ledger label : List ℕ) (day : ℕ) (s : Side) (c : ℕ) where
  pub day_refused : real_date day ≡ false → ◌≡◌ {A = Reading model.Tested} (refused 86) (test_on ledger label day s c)
  unfolding test_on
  day_refused e = rw e

  module _ (real : real_date day ≡ true) where
    pub book_refused : (r : ℕ) → read_book ledger label day ≡ refused r → ◌≡◌ {A = Reading model.Tested} (refused r) (test_on ledger label day s c)
    unfolding test_on
    book_refused r e = rw (real, e)

    -- nothing is refused
    module _ (chosen : Chosen) (h : ChosenCounting ledger label day chosen) (t : Tested) (e : tested_of t ≡ test_in chosen.ledger.now chosen.sizes.grants chosen.bits s c) where
      pub tested_on : accepted (tested_of t) ≡ test_on ledger label day s c
      unfolding test_on
      tested_on = rw (real, h.book.is day) (ap accepted (e ∙ test_chosen ledger label day chosen h s c))

      -- a ledger has at most 64 grants
      pub tested_fits : t.tested ≤ 64
      tested_fits =
          omega (arith, ap (λ (x : model.Tested). x.tested) e, tested_few chosen.ledger.now chosen.sizes.grants chosen.bits s c, h.book.of.count, (ledger_stands ledger h.book.book h.book.of.is).count_most)

-- The test of a coalition on a side. Assumes nothing.
use mathlib.Core.Path.{ap}
use mathlib.Core.List.{List}
use Rattle.model.specs.Grants.{Grant, counts_under, counting}
use Rattle.model.specs.Questions.{sound_under}
use Rattle.model.specs.Testing.{test_of, test_under}
use Rattle.model.proofs.Testing.{test-sound, broken_exactly, sound_exactly}
use Rattle.model.proofs.Without.{leave_chosen}
use Rattle.requests.specs.Testing.{VerdictIsSoundness, EndsAtTheBrokenGrant, UncountedChangeNoTest}

pub verdict_is_soundness : VerdictIsSoundness
unfolding test_under sound_under
verdict_is_soundness l u s c = test-sound s c (counting u l.grants)

pub ends_at_the_broken_grant : EndsAtTheBrokenGrant
unfolding test_under
ends_at_the_broken_grant = record {
  at_the_first = λ l u s c t. broken_exactly s c (counting u l.grants) t;
  after_all = λ l u s c t. sound_exactly s c (counting u l.grants) t;
}

pub uncounted_change_no_test : UncountedChangeNoTest
unfolding test_under
uncounted_change_no_test l u out h s c = ap (λ (gs : List Grant). test_of gs s c) (leave_chosen (counts_under u) out l.grants h)

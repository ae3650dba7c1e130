-- What the numbers of the exports are. Assumes nothing: these are definitions.
use Rattle.std.specs.Prelude.{ℕ, zero, suc, ◌+◌, ◌*◌, cond, List, Result, Ok, Err}
use Rattle.model.specs.Sides.{Side, confidentiality, integrity}
use Rattle.model.specs.Readings.{Reading, accepted, refused, and_then}
use Rattle.model.specs.Dates.{real_date}
use Rattle.model.specs.Ledgers.{read_book}
use Rattle.model.specs.Testing.{Tested, test_under}
use Rattle.refusals.specs.declared.Refusal.{Refusal}
use Rattle.refusals.specs.Numbers.{refusal_number}
use Rattle.soundness.specs.declared.Tested.{Tested as CodeTested}
use Rattle.soundness.specs.Testing.{tested_of}

-- the date that was reached, or kind 2 and the refusal
abbrev pub sum_number : Reading ℕ → ℕ
sum_number (accepted date) = date
sum_number (refused r) = 2 * 65536 + r

-- The test of a coalition on bytes, which document 02 does not have as a call: 86 for the day, then the refusals of the ledger and of the label.
unfoldable pub test_on : List ℕ → List ℕ → ℕ → Side → ℕ → Reading Tested
test_on ledger label day s c = cond (real_date day) (and_then (read_book ledger label day) (λ b. accepted (test_under b.ledger b.asked s c))) (refused 86)

-- what the test of the code stands for
abbrev pub tested_reading : Result CodeTested Refusal → Reading Tested
tested_reading (Ok t) = accepted (tested_of t)
tested_reading (Err why) = refused (refusal_number why)

-- 0 is the see side, any other number the change side
abbrev pub side_numbered : ℕ → Side
side_numbered zero = confidentiality
side_numbered (suc k) = integrity

-- sound is kind 0 and broken kind 1, with the number of grants that were tested; or kind 2 and the refusal
abbrev pub verdict_kind : Tested → ℕ
verdict_kind t = cond t.is_sound 0 1

abbrev pub test_number : Reading Tested → ℕ
test_number (accepted t) = verdict_kind t * 65536 + t.tested
test_number (refused r) = 2 * 65536 + r

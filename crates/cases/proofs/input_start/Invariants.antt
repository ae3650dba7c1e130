-- A length is below 2^32, so that five of them and 52 fit.
use Rattle.std.proofs.Common.{◌≡◌, ◌+◌, ◌*◌, ◌≤◌}
use Rattle.cases.specs.Records.{input_start}
use Rattle.cases.proofs.input_start.Given as goal

abbrev pub invariant-loop-i : goal.invariant-loop-i
invariant-loop-i l = (52 ≤ l.at) × (l.at ≤ 52 + l.i * 4294967296) × (l.at ≡ input_start l.i l.unpacked)

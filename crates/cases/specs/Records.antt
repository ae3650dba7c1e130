-- A record of the test program's data file: numbers, and where its inputs stand. Assumes nothing: these are definitions.
use Rattle.std.specs.Prelude.{ℕ, zero, suc, ◌+◌, ◌*◌, ◌<◌, ◌≤◌, List}
use Rattle.model.specs.Bytes.{four_bytes}
use Rattle.cases.specs.declared.Run.{Run}

-- an eight-byte field
abbrev pub eight_bytes : ℕ → List ℕ → ℕ
eight_bytes at l = four_bytes at l * 4294967296 + four_bytes (at + 4) l

-- the length of input k: the lengths stand from byte 12 on
abbrev pub input_length : ℕ → List ℕ → ℕ
input_length k bytes = four_bytes (12 + 4 * k) bytes

-- where input k starts: the inputs stand from byte 52 on, one after another
unfoldable pub input_start : ℕ → List ℕ → ℕ
input_start zero bytes = 52
input_start (suc k) bytes = input_start k bytes + input_length k bytes

-- a run lies within the packed bytes, and what it stands for within the room
abbrev pub Within : Run → ℕ → ℕ → Type 0
Within run packed room = (0 < run.packed) × (run.packed ≤ packed) × (run.size ≤ room)

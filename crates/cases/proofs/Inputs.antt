-- Laws of where a record's inputs stand. Assumes nothing.
use Prim.Native.Nat.{ℕ, ◌+◌}
use native.Mathlib.Numerals.{add-one}
use mathlib.Core.Path.{◌≡◌}
use mathlib.Core.List.{List}
use Rattle.cases.specs.Records.{input_length, input_start}

-- An input starts where the one before it ends.
pub start_more : (k at len : ℕ) (l : List ℕ) → at ≡ input_start k l → len ≡ input_length k l → at + len ≡ input_start (k + 1) l
unfolding input_start
start_more k at len l e f = rw (add-one, e, f)

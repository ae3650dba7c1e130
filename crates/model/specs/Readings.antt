-- What readers give: accepted values, or refusals by their numbers (document 01, "Refusals by operation": the first that applies).
-- Assumes nothing: these are definitions.
use Rattle.std.specs.Prelude.{ℕ, ◌+◌, Bool, true, false}

-- What a reader gives: a value, or the number of the refusal.
pub data Reading (A : Type 0) : Type 0 where
  accepted : A → Reading A
  refused : ℕ → Reading A

-- go on with what was accepted; a refusal stays the answer
abbrev pub and_then : {A B : Type 0} → Reading A → (A → Reading B) → Reading B
and_then (accepted a) next = next a
and_then (refused r) next = refused r

-- the same reading, its refusals counted from a base: a label's refusals 1 to 4 are 41 to 44
abbrev pub from : {A : Type 0} → ℕ → Reading A → Reading A
from base (accepted a) = accepted a
from base (refused r) = refused (base + r)

-- refusal r unless the test is passed
abbrev pub require : {A : Type 0} → Bool → ℕ → Reading A → Reading A
require true r next = next
require false r next = refused r

-- any refusal of the reading becomes refusal r
abbrev pub refused_as : {A : Type 0} → ℕ → Reading A → Reading A
refused_as r (accepted a) = accepted a
refused_as r (refused k) = refused r

abbrev pub is_accepted : {A : Type 0} → Reading A → Bool
is_accepted (accepted a) = true
is_accepted (refused r) = false

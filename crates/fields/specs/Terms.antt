-- Terms in their fields of 64 bytes (document 01, "The ledger" and "Derivations"). Assumes nothing: these are definitions.
use Rattle.std.specs.Prelude.{ℕ, ◌+◌, ◌-◌, Bool, List}
use Rattle.model.specs.Bytes.{byte, field, zeros}

-- the filler past the term whose length is byte k and whose field of 64 bytes begins at `at`
unfoldable pub past_term : ℕ → ℕ → List ℕ → Bool
past_term k at block = zeros (field (at + byte k block) (64 - byte k block) block)

-- What a block's check is asked of (document 01, "The ledger"). Assumes nothing: these are definitions.
use Rattle.std.specs.Prelude.{ℕ, Bool, ◌&&◌, List, eqb, length}
use Rattle.model.specs.Ledgers.{checked}

-- a whole block, of 512 bytes, whose check holds
abbrev pub whole_checked : List ℕ → Bool
whole_checked block = eqb (length block) 512 && checked block

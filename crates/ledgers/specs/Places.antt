-- Where the terms and the days of grant k begin in a ledger (document 01, "The ledger"; document 02, K2). Assumes nothing: these are definitions.
use Rattle.std.specs.Prelude.{ℕ, ◌+◌, ◌*◌, min}

-- The block of grant k begins after block 0 and those of the grants before it. No ledger has more grants than 64: a k past that is taken as 64.
abbrev pub block_place : ℕ → ℕ
block_place k = 512 * (min k 64 + 1)

abbrev pub p_place : ℕ → ℕ
p_place k = block_place k + 16

abbrev pub q_place : ℕ → ℕ
q_place k = block_place k + 80

abbrev pub label_place : ℕ → ℕ
label_place k = block_place k + 144

abbrev pub days_place : ℕ → ℕ
days_place k = block_place k + 208

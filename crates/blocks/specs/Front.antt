-- The written ledger in front of a live ledger's bytes (document 02, K5). Assumes nothing: these are definitions.
use Rattle.std.specs.Prelude.{◌≡◌, List, [], ℕ, ◌+◌, ◌*◌, ◌/◌, ◌%◌, ◌≤◌, ◌<◌, length, take, drop, get_or, set}
use Rattle.model.specs.Ledgers.{ledger_of}

-- the bytes with another count of grants in block 0, and its check
abbrev pub counted : List ℕ → ℕ → ℕ → List ℕ
counted ledger n count = set (set (set ledger 3 count) 510 ((1 + 2 * n + 4 * count) / 256)) 511 ((1 + 2 * n + 4 * count) % 256)

-- each has 512 bytes
abbrev pub Sized : List (List ℕ) → Type 0
Sized blocks = (k : ℕ) → k < length blocks → length (get_or blocks k []) ≡ 512

-- where the ledger of so many blocks ends
abbrev pub end_of : List (List ℕ) → ℕ
end_of blocks = 512 * (1 + length blocks)

-- the front of the bytes is the ledger of n names with these blocks
abbrev pub Front : List ℕ → ℕ → List (List ℕ) → Type 0
Front ledger n blocks = take (end_of blocks) ledger ≡ ledger_of n blocks

pub record Kept (ledger : List ℕ) (n : ℕ) (blocks : List (List ℕ)) : Type 0 where
  pub sized : length ledger ≡ 33280
  pub names : n ≤ 12
  pub few : length blocks ≤ 64
  pub whole : Sized blocks
  pub front : Front ledger n blocks

-- It has become that, and later bytes are as they were.
pub record Rewritten (before : List ℕ) (n : ℕ) (blocks : List (List ℕ)) (after : List ℕ) : Type 0 where
  pub kept : Kept after n blocks
  pub later : drop (end_of blocks) after ≡ drop (end_of blocks) before

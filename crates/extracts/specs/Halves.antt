-- How the rows of sound coalitions become the bytes of an extract (document 01, "Extract"). Assumes nothing: these are definitions.
use Rattle.std.specs.Prelude.{◌≡◌, List, [], ◌∷◌, ℕ, zero, suc, ◌+◌, ◌*◌, ◌/◌, ◌%◌, replicate}
use Rattle.std.proofs.Math.Seq.{paste}
use Rattle.model.specs.Sides.{confidentiality, integrity}
use Rattle.model.specs.Coalitions.{Marks, mark}
use Rattle.model.specs.Extracts.{packed_bytes}
use Rattle.words.specs.declared.Row.{Row}

-- the k lowest bytes of a number, lowest first
unfoldable pub little_endian : ℕ → ℕ → List ℕ
little_endian zero x = []
little_endian (suc k) x = x % 256 ∷ little_endian k (x / 256)

-- a half whose bytes of word w are those of a word, and one whose words of row g are those of a row
abbrev pub paste_word : List ℕ → ℕ → ℕ → List ℕ
paste_word half w word = paste half (8 * w) (little_endian 8 word) 8

abbrev pub paste_row : List ℕ → ℕ → Row → List ℕ
paste_row half g row = paste_word (paste_word (paste_word (paste_word half (4 * g) row.a) (4 * g + 1) row.b) (4 * g + 2) row.c) (4 * g + 3) row.d

-- k bytes 00
abbrev pub blank : ℕ → List ℕ
blank k = replicate k 0

-- both halves of a table, as the arrays hold them
pub record Halves (n : ℕ) (S : Marks) (see change : List ℕ) : Type 0 where
  pub see_half : see ≡ packed_bytes (mark n (S confidentiality)) 0 512
  pub change_half : change ≡ packed_bytes (mark n (S integrity)) 0 512

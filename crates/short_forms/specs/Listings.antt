-- What the promises of the short form's code cite. The short form itself is the model's `shorten` (document 01, "Short form").
-- Assumes nothing: these are definitions.
use Rattle.std.specs.Prelude.{◌≡◌, Bool, not, ◌&&◌, List, ◌++◌, ℕ, ◌-◌, ◌/◌, ◌%◌, ◌^◌, length, get_or, drop}
use Rattle.model.specs.Bytes.{big_endian}
use Rattle.model.specs.Coalitions.{member, implies, every, those}
use Rattle.model.specs.ShortForms.{pairs}

-- the mark of coalition c in a table of words: bit c mod 64 of word c div 64
unfoldable pub marked : List ℕ → ℕ → Bool
marked words c = member (c % 64) (get_or words (c / 64) 0)

-- c has the name i as a member, and without it is one of f
unfoldable pub marked_without : ℕ → (ℕ → Bool) → ℕ → Bool
marked_without i f c = member i c && f (c - 2 ^ i)

-- the numbers first + j for the bits j of a word, ascending
unfoldable pub bits_of : ℕ → ℕ → List ℕ
bits_of word first = those (λ c. member (c - first) word) first 64

-- one of f, and with any one member less it is not
unfoldable pub irredundant : ℕ → (ℕ → Bool) → ℕ → Bool
irredundant n f c = f c && every (λ i. implies (member i c) (not (f (c - 2 ^ i)))) n

-- a count and the coalitions of f, ascending, two bytes each
unfoldable pub listing : ℕ → (ℕ → Bool) → List ℕ
listing n f = big_endian (length (those f 0 (2 ^ n))) ++ pairs (those f 0 (2 ^ n))

-- the buffer's first bytes are these, as many as `len`; later bytes keep their content
pub record FrontWritten (bytes before after : List ℕ) (len : ℕ) : Type 0 where
  pub size : len ≡ length bytes
  pub content : after ≡ bytes ++ drop (length bytes) before

-- Numbers kept as digits, 256 of them to a row (document 02, K5). Assumes nothing: these are definitions.
use Rattle.std.specs.Prelude.{◌≡◌, Bool, true, false, not, List, ℕ, ◌+◌, ◌*◌, ◌<◌, ◌≤◌, length}
use Rattle.model.specs.Coalitions.{member, bit}
use Rattle.words.specs.declared.Row.{Row}
use Rattle.std.specs.Int.Bits.{bit_and, bit_xor}
use Rattle.words.specs.FourWords.{RowAt, each_word, row_set, row_in}

-- digit j of a row of numbers, for its 256 coalitions
abbrev pub digit_row : List ℕ → ℕ → ℕ → Row
digit_row planes row j = row_in planes (7 * row + j)

-- the list in which it is another
abbrev pub digit_set : List ℕ → ℕ → ℕ → Row → List ℕ
digit_set planes row j x = row_set planes (7 * row + j) x

-- A row of numbers has digits 0 to 6 of f c for each coalition c of row g: f c modulo 128.
pub record Digits (planes : List ℕ) (row g : ℕ) (f : ℕ → ℕ) : Type 0 where
  pub sized : length planes ≡ 896
  pub low : row < 32
  pub digit : (j : ℕ) → j < 7 → RowAt (λ c. member j (f c)) g (digit_row planes row j)

-- The numbers are below 128, so that their digits tell them.
pub record Stored (planes : List ℕ) (row g : ℕ) (f : ℕ → ℕ) : Type 0 where
  pub digits : Digits planes row g f
  pub small : (c : ℕ) → 256 * g ≤ c → c < 256 * g + 256 → f c < 128

-- Every word outside of the row is as it was.
pub record Elsewhere (before : List ℕ) (row : ℕ) (after : List ℕ) : Type 0 where
  pub same : length after ≡ length before
  pub below : (k : ℕ) → k < 7 * row → row_in after k ≡ row_in before k
  pub above : (k : ℕ) → 7 * row + 7 ≤ k → row_in after k ≡ row_in before k

-- one or the other, and not both
abbrev pub other : Bool → Bool → Bool
other true b = not b
other false b = b

-- The numbers f become h digit by digit: a digit is the other of what it was and of what came into it. Into digit 0 comes m, and into the next what came
-- into this one, where the digit that `of` picks is set.
pub record Carrying (of : Row → Row → Row → Type 0) (g : ℕ) (f h : ℕ → ℕ) (m : ℕ → Bool) : Type 0 where
  pub carry : ℕ → ℕ → Bool
  pub first : (x : Row) → RowAt m g x → RowAt (carry 0) g x
  pub digit : (j c : ℕ) → member j (h c) ≡ other (member j (f c)) (carry j c)
  pub next : (j : ℕ) (x y z : Row) → RowAt (λ c. member j (f c)) g x → RowAt (carry j) g y → of x (each_word bit_xor x y) z → RowAt (carry (j + 1)) g (each_word bit_and z y)

pub record Counted (of : Row → Row → Row → Type 0) (before : List ℕ) (row : ℕ) (marked : Row) (after : List ℕ) : Type 0 where
  pub number : (g : ℕ) (f h : ℕ → ℕ) (m : ℕ → Bool) → Carrying of g f h m → Digits before row g f → RowAt m g marked → Digits after row g h
  pub others : Elsewhere before row after

-- 1 more, modulo 128, at each coalition that is marked.
pub record Raised (before : List ℕ) (row : ℕ) (marked : Row) (after : List ℕ) : Type 0 where
  pub number : (g : ℕ) (f : ℕ → ℕ) (m : ℕ → Bool) → Digits before row g f → RowAt m g marked → Digits after row g (λ c. f c + bit (m c))
  pub others : Elsewhere before row after

-- 1 less, modulo 128, likewise: the numbers that are f with 1 added were stored, and f is.
pub record Lowered (before : List ℕ) (row : ℕ) (marked : Row) (after : List ℕ) : Type 0 where
  pub number : (g : ℕ) (f : ℕ → ℕ) (m : ℕ → Bool) → Digits before row g (λ c. f c + bit (m c)) → RowAt m g marked → Digits after row g f
  pub others : Elsewhere before row after

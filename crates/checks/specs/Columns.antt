-- The sums of columns of bytes, by which a block's check is made. Assumes nothing: these are definitions.
use Rattle.std.specs.Prelude.{◌≡◌, ℕ, zero, suc, ◌+◌, ◌*◌, ◌≤◌, List, [], ◌∷◌, length, get_or}

-- the sum of the numbers
unfoldable pub total : List ℕ → ℕ
total [] = 0
total (b ∷ l) = b + total l

-- the numbers, with those of another list added to the first k
unfoldable pub added : ℕ → List ℕ → List ℕ → List ℕ
added zero s l = s
added (suc k) [] l = []
added (suc k) (a ∷ s) [] = a ∷ s
added (suc k) (a ∷ s) (b ∷ l) = (a + b) ∷ added k s l

-- the sums of 16 columns are no larger than m rows of bytes make them, where m is at most 16
pub record Columns (m : ℕ) (sums runs : List ℕ) : Type 0 where
  pub sums_many : length sums ≡ 16
  pub runs_many : length runs ≡ 16
  pub sums_most : (j : ℕ) → get_or sums j 0 ≤ 255 * m
  pub runs_most : (j : ℕ) → get_or runs j 0 ≤ 4080 * m

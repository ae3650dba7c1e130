-- Document 02, K12: the sizes of coalitions, and how many there are of each size. Assumes nothing: these are definitions.
use Rattle.std.specs.Prelude.{ℕ, zero, suc, ◌+◌, ◌*◌, ◌^◌, max, eqb, length}
use Rattle.model.specs.Coalitions.{member, those}

-- a coalition's size is its count of members, of n names
unfoldable pub size : ℕ → ℕ → ℕ
size n c = length (those (λ i. member i c) 0 n)

-- how many coalitions of n names have k members
unfoldable pub layer : ℕ → ℕ → ℕ
layer n k = length (those (λ c. eqb (size n c) k) 0 (2 ^ n))

-- the largest of f 0, .., f (k - 1)
unfoldable pub largest : (ℕ → ℕ) → ℕ → ℕ
largest f zero = 0
largest f (suc k) = max (largest f k) (f k)

-- the largest number of coalitions of one size, 0 to n
unfoldable pub largest_layer : ℕ → ℕ
largest_layer n = largest (layer n) (suc n)

-- for each side a count, and the coalitions of a largest layer: two bytes each
abbrev pub room_for : ℕ → ℕ
room_for n = 2 * (2 + 2 * largest_layer n)

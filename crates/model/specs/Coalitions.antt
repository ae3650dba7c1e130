-- Coalitions, sets of names by their numbers, and sets of coalitions (document 01, "Terms"). Assumes nothing: these are definitions.
use Rattle.std.specs.Prelude.{ℕ, zero, suc, ◌+◌, ◌*◌, ◌/◌, ◌%◌, ◌^◌, Bool, true, false, cond, not, ◌&&◌, List, [], ◌∷◌, eqb, ltb}
use Rattle.model.specs.Sides.{Side}

-- Name i is a member of the coalition numbered c: c is the sum of 2^i over its members.
unfoldable pub member : ℕ → ℕ → Bool
member i c = eqb (c / 2 ^ i % 2) 1

-- On each side, some of the coalitions: those that hold a term, or those that are sound.
abbrev pub Marks : Type 0
Marks = Side → ℕ → Bool

abbrev pub implies : Bool → Bool → Bool
implies true b = b
implies false b = true

-- f holds of every number below k
unfoldable pub every : (ℕ → Bool) → ℕ → Bool
every f zero = true
every f (suc k) = every f k && f k

-- every coalition of n names that is one of f is one of g
unfoldable pub within : ℕ → (ℕ → Bool) → (ℕ → Bool) → Bool
within n f g = every (λ c. implies (f c) (g c)) (2 ^ n)

-- of n names: every member of b is one of c
abbrev pub subset : ℕ → ℕ → ℕ → Bool
subset n b c = every (λ i. implies (member i b) (member i c)) n

-- and b is not c
unfoldable pub proper_subset : ℕ → ℕ → ℕ → Bool
proper_subset n b c = subset n b c && not (eqb b c)

-- the lowest number below k at which f holds
pub data Lowest : Type 0 where
  nowhere : Lowest
  at : ℕ → Lowest

abbrev pub or_else : Lowest → Bool → ℕ → Lowest
or_else (at c) here k = at c
or_else nowhere true k = at k
or_else nowhere false k = nowhere

unfoldable pub lowest : (ℕ → Bool) → ℕ → Lowest
lowest f zero = nowhere
lowest f (suc k) = or_else (lowest f k) (f k) k

-- of the numbers i, i + 1, .., as many as k: those of f, ascending
unfoldable pub those : (ℕ → Bool) → ℕ → ℕ → List ℕ
those f i zero = []
those f i (suc k) = cond (f i) (i ∷ those f (suc i) k) (those f (suc i) k)

-- f on the coalitions of n names: from 2^n up none is marked
unfoldable pub mark : ℕ → (ℕ → Bool) → ℕ → Bool
mark n f c = ltb c (2 ^ n) && f c

abbrev pub bit : Bool → ℕ
bit true = 1
bit false = 0

-- the number whose bits 0 to k - 1 are f i, f (i + 1), ..
unfoldable pub packed : (ℕ → Bool) → ℕ → ℕ → ℕ
packed f i zero = 0
packed f i (suc k) = bit (f i) + 2 * packed f (suc i) k

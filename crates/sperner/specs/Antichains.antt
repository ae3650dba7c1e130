-- Sperner's bound, and the short forms that it bounds (document 02, K12). Assumes nothing: these are the statements.
use Rattle.std.specs.Prelude.{◌≡◌, ℕ, zero, suc, ◌+◌, ◌/◌, ◌^◌, ◌≤◌, ◌<◌, Bool, false, List, length, get_or}
use Rattle.model.specs.Coalitions.{Marks, proper_subset, those}
use Rattle.model.specs.Layers.{layer, largest_layer, room_for}
use Rattle.model.specs.ShortForms.{minimal, short_form}

-- A family of coalitions of n names, as a list: no two members are alike, and none is inside another.
pub record Antichain (n : ℕ) (family : List ℕ) : Type 0 where
  pub coalitions : (i : ℕ) → i < length family → get_or family i 0 < 2 ^ n
  pub distinct : (i j : ℕ) → i < length family → j < length family → get_or family i 0 ≡ get_or family j 0 → i ≡ j
  pub none_inside : (i j : ℕ) → i < length family → j < length family → proper_subset n (get_or family i 0) (get_or family j 0) ≡ false

-- Sperner: it has no more members than there are coalitions of some one size.
abbrev pub SpernersBound : Type 0
SpernersBound = (n : ℕ) (family : List ℕ) → Antichain n family → length family ≤ largest_layer n

-- Some such family has as many.
pub record LargestFamily (n : ℕ) : Type 0 where
  pub family : List ℕ
  pub antichain : Antichain n family
  pub members : length family ≡ largest_layer n

abbrev pub BoundReached : Type 0
BoundReached = (n : ℕ) → LargestFamily n

-- the binomial coefficient, n over k, by Pascal's rule
unfoldable pub choose : ℕ → ℕ → ℕ
choose n zero = 1
choose zero (suc k) = 0
choose (suc n) (suc k) = choose n k + choose n (suc k)

-- Of n names, n over k coalitions have k members.
abbrev pub LayersAreBinomial : Type 0
LayersAreBinomial = (n k : ℕ) → layer n k ≡ choose n k

-- The middle layer is the largest.
abbrev pub MiddleLayerIsLargest : Type 0
MiddleLayerIsLargest = (n : ℕ) → largest_layer n ≡ choose n (n / 2)

-- 924 for twelve names, and no more for fewer.
pub record TwelveNames : Type 0 where
  pub twelve : largest_layer 12 ≡ 924
  pub fewer : (n : ℕ) → n ≤ 12 → largest_layer n ≤ 924

-- The minimal coalitions of whatever marks are such a family: those of a term, on a side, among them.
abbrev pub MinimalAntichain : Type 0
MinimalAntichain = (n : ℕ) (f : ℕ → Bool) → Antichain n (those (minimal n f) 0 (2 ^ n))

-- So a short form fits the room for its names: 3,700 bytes for twelve, and no more for fewer.
pub record ShortFormsFit : Type 0 where
  pub fits : (n : ℕ) (f : Marks) → length (short_form n f) ≤ room_for n
  pub twelve : room_for 12 ≡ 3700
  pub fewer : (n : ℕ) → n ≤ 12 → room_for n ≤ 3700

-- Laws of the sums of columns: bytes in rows of 16, added from the last row to the first. Assumes nothing.
use Prim.Native.Nat.{ℕ, zero, suc, ◌+◌, ◌-◌, ◌*◌, ◌≤◌, ◌<◌}
use native.Mathlib.Nat.{le_refl, mul-add}
use native.Mathlib.Numerals.{add-one}
use native.Mathlib.Omega.{arith}
use mathlib.Core.Path.{◌≡◌, refl, ap, ◌∙◌}
use mathlib.Core.List.{List, [], ◌∷◌}
use lib.ListN.{length, take, drop, get_or, set, replicate, length-drop}
use lib.Seq.{take_all, take-add, drop-drop, get_or-drop}
use Rattle.model.specs.Ledgers.{weighted}
use Rattle.checks.specs.Columns.{total, added, Columns}
use Rattle.checks.proofs.Sums.{total-append, weight_rows}

-- ---- one list added to another
length-added : (k : ℕ) (s l : List ℕ) → length (added k s l) ≡ length s
unfolding added
length-added zero s l = refl
length-added (suc k) [] l = refl
length-added (suc k) (a ∷ s) [] = refl
length-added (suc k) (a ∷ s) (b ∷ l) = ap suc (length-added k s l)

-- number k, which is the next to be added to
pub added_at : (k : ℕ) (s l : List ℕ) → get_or (added k s l) k 0 ≡ get_or s k 0
unfolding added
added_at zero s l = refl
added_at (suc k) [] l = refl
added_at (suc k) (a ∷ s) [] = refl
added_at (suc k) (a ∷ s) (b ∷ l) = added_at k s l

added-suc : (k : ℕ) (s l : List ℕ) → k < length s → k < length l → set (added k s l) k (get_or s k 0 + get_or l k 0) ≡ added (suc k) s l
unfolding added
added-suc k [] l h i = absurd (omega arith)
added-suc k (a ∷ s) [] h i = absurd (omega arith)
added-suc zero (a ∷ s) (b ∷ l) h i = refl
added-suc (suc k) (a ∷ s) (b ∷ l) h i = ap (λ (r : List ℕ). (a + b) ∷ r) (added-suc k s l (omega arith) (omega arith))

pub added_more : (k : ℕ) (s l now : List ℕ) → k < length s → k < length l → now ≡ added k s l → set now k (get_or now k 0 + get_or l k 0) ≡ added (k + 1) s l
added_more k s l now h i e = rw (e, added_at k s l, add-one k) (added-suc k s l h i)

-- no more than k numbers are added
added-take : (k : ℕ) (s l : List ℕ) → added k s (take k l) ≡ added k s l
unfolding added
added-take zero s l = refl
added-take (suc k) [] l = refl
added-take (suc k) (a ∷ s) [] = refl
added-take (suc k) (a ∷ s) (b ∷ l) = ap (λ (r : List ℕ). (a + b) ∷ r) (added-take k s l)

added_most : (k : ℕ) (s l : List ℕ) (j : ℕ) → get_or (added k s l) j 0 ≤ get_or s j 0 + get_or l j 0
unfolding added
added_most zero s l j = omega arith
added_most (suc k) [] l j = omega arith
added_most (suc k) (a ∷ s) [] j = omega arith
added_most (suc k) (a ∷ s) (b ∷ l) zero = le_refl (a + b)
added_most (suc k) (a ∷ s) (b ∷ l) (suc j) = added_most k s l j

total-added : (k : ℕ) (s l : List ℕ) → k ≤ length s → total (added k s l) ≡ total s + total (take k l)
unfolding added total
total-added zero s l h = omega arith
total-added (suc k) [] l h = absurd (omega arith)
total-added (suc k) (a ∷ s) [] h = omega arith
total-added (suc k) (a ∷ s) (b ∷ l) h = omega (arith, total-added k s l (omega arith))

weighted-added : (i k : ℕ) (s l : List ℕ) → k ≤ length s → weighted i (added k s l) ≡ weighted i s + weighted i (take k l)
unfolding added weighted
weighted-added i zero s l h = omega arith
weighted-added i (suc k) [] l h = absurd (omega arith)
weighted-added i (suc k) (a ∷ s) [] h = omega arith
weighted-added i (suc k) (a ∷ s) (b ∷ l) h = omega (arith, mul-add (i + 1) a b, weighted-added (suc i) k s l (omega arith))

-- ---- the columns of k rows
-- the sum of each column
unfoldable pub sums_of : ℕ → List ℕ → List ℕ
sums_of zero l = replicate 16 0
sums_of (suc k) l = added 16 (sums_of k (drop 16 l)) l

-- the sum of each column, in which a byte counts once for each row before its own
unfoldable pub runs_of : ℕ → List ℕ → List ℕ
runs_of zero l = replicate 16 0
runs_of (suc k) l = added 16 (runs_of k (drop 16 l)) (sums_of k (drop 16 l))

blank_at : (n j : ℕ) → ◌≡◌ {A = ℕ} (get_or (replicate n 0) j 0) 0
blank_at zero j = refl
blank_at (suc n) zero = refl
blank_at (suc n) (suc j) = blank_at n j

sums_many : (k : ℕ) (l : List ℕ) → length (sums_of k l) ≡ 16
unfolding sums_of
sums_many zero l = refl
sums_many (suc k) l = length-added 16 (sums_of k (drop 16 l)) l ∙ sums_many k (drop 16 l)

runs_many : (k : ℕ) (l : List ℕ) → length (runs_of k l) ≡ 16
unfolding runs_of
runs_many zero l = refl
runs_many (suc k) l = length-added 16 (runs_of k (drop 16 l)) (sums_of k (drop 16 l)) ∙ runs_many k (drop 16 l)

sums_most : (k : ℕ) (l : List ℕ) → ((j : ℕ) → get_or l j 0 ≤ 255) → (j : ℕ) → get_or (sums_of k l) j 0 ≤ 255 * k
unfolding sums_of
sums_most zero l bytes j = omega (arith, blank_at 16 j)
sums_most (suc k) l bytes j =
    omega (arith, added_most 16 (sums_of k (drop 16 l)) l j, bytes j, sums_most k (drop 16 l) (λ i. rw get_or-drop (bytes (16 + i))) j)

runs_most : (k : ℕ) (l : List ℕ) → k ≤ 16 → ((j : ℕ) → get_or l j 0 ≤ 255) → (j : ℕ) → get_or (runs_of k l) j 0 ≤ 4080 * k
unfolding runs_of
runs_most zero l h bytes j = omega (arith, blank_at 16 j)
runs_most (suc k) l h bytes j =
    let rest : (i : ℕ) → get_or (drop 16 l) i 0 ≤ 255 = λ i. rw get_or-drop (bytes (16 + i)) in
    omega (arith, added_most 16 (runs_of k (drop 16 l)) (sums_of k (drop 16 l)) j, sums_most k (drop 16 l) rest j, runs_most k (drop 16 l) (omega arith) rest j)

pub columns : (m k : ℕ) (l : List ℕ) → k ≤ m → m ≤ 16 → ((j : ℕ) → get_or l j 0 ≤ 255) → Columns m (sums_of k l) (runs_of k l)
columns m k l h few bytes = record {
  sums_many = sums_many k l;
  runs_many = runs_many k l;
  sums_most = λ j. omega (arith, sums_most k l bytes j);
  runs_most = λ j. omega (arith, runs_most k l (omega arith) bytes j);
}

-- ---- one row more, the one before row j
module _ (k j : ℕ) (l sums runs : List ℕ) (h : 1 ≤ j) (s : sums ≡ sums_of k (drop (16 * j) l)) (r : runs ≡ runs_of k (drop (16 * j) l)) where
  back : drop 16 (drop (16 * (j - 1)) l) ≡ drop (16 * j) l
  back =
      let e : 16 * (j - 1) + 16 ≡ 16 * j = omega arith in
      drop-drop 16 (16 * (j - 1)) l ∙ ap (λ (i : ℕ). drop i l) e

  pub sums_more : added 16 sums (take (16 * (j - 1) + 16 - 16 * (j - 1)) (drop (16 * (j - 1)) l)) ≡ sums_of (suc k) (drop (16 * (j - 1)) l)
  unfolding sums_of
  sums_more =
      let width : 16 * (j - 1) + 16 - 16 * (j - 1) ≡ 16 = omega arith in
      rw (width, added-take, back, s)

  pub runs_more : added 16 runs sums ≡ runs_of (suc k) (drop (16 * (j - 1)) l)
  unfolding runs_of
  runs_more = rw (back, s, r)

-- ---- what the columns of k rows come to
-- 16 bytes, and the k rows that follow
row_first : (k : ℕ) (l : List ℕ) → take (16 * suc k) l ≡ take (16 + 16 * k) l
row_first k l =
    let e : 16 * suc k ≡ 16 + 16 * k = omega arith in
    ap (λ (n : ℕ). take n l) e

rows_total : (k : ℕ) (l : List ℕ) → total (sums_of k l) ≡ total (take (16 * k) l)
unfolding sums_of total
rows_total zero l = refl
rows_total (suc k) l =
    let split : total (take (16 * suc k) l) ≡ total (take 16 l) + total (take (16 * k) (drop 16 l)) =
    ap total (row_first k l ∙ take-add 16 (16 * k) l) ∙ total-append (take 16 l) (take (16 * k) (drop 16 l)) in
    omega (arith, total-added 16 (sums_of k (drop 16 l)) l (omega (arith, sums_many k (drop 16 l))), rows_total k (drop 16 l))

rows_weight : (k : ℕ) (l : List ℕ) → 16 * k ≤ length l → weighted 0 (sums_of k l) + 16 * total (runs_of k l) ≡ weighted 0 (take (16 * k) l)
unfolding sums_of runs_of total weighted
rows_weight zero l h = refl
rows_weight (suc k) l h =
    let rest = drop 16 l in
    let split : weighted 0 (take (16 * suc k) l) ≡ weighted 0 (take 16 l) + (16 * total (take (16 * k) rest) + weighted 0 (take (16 * k) rest)) =
    ap (weighted 0) (row_first k l) ∙ weight_rows 16 (16 * k) l (omega arith) in
    let whole : take 16 (sums_of k rest) ≡ sums_of k rest = take_all 16 (sums_of k rest) (omega (arith, sums_many k rest)) in
    omega (
      arith,
      weighted-added 0 16 (sums_of k rest) l (omega (arith, sums_many k rest)),
      total-added 16 (runs_of k rest) (sums_of k rest) (omega (arith, runs_many k rest)) ∙ ap (λ (r : List ℕ). total (runs_of k rest) + total r) whole,
      rows_total k rest,
      rows_weight k rest (omega (arith, length-drop 16 l)),
    )

-- the 16 rows of 256 bytes
pub front_weight : (k at : ℕ) (l sums runs : List ℕ) → at ≡ 0 → at + 16 * k ≡ 256 → 256 ≤ length l → sums ≡ sums_of k (drop at l) → runs ≡ runs_of k (drop at l) → weighted 0 sums + 16 * total runs ≡ weighted 0 (take 256 l)
front_weight k at l sums runs first all h s r =
    let rows : k ≡ 16 = omega arith in
    rw (s, r, first, rows) (rows_weight 16 l (omega arith))

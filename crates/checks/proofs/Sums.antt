-- Laws of the weighted sum of a block's check. Assumes nothing.
use Prim.Native.Nat.{ℕ, zero, suc, ◌+◌, ◌*◌, ◌≤◌, ◌<◌}
use native.Mathlib.Nat.{mul-le-mul, add-zero, zero-add, add_assoc, mul-zero, add-mul, mul-add}
use native.Mathlib.Numerals.{add-one}
use native.Mathlib.Omega.{arith}
use mathlib.Core.Path.{◌≡◌, refl, sym, ap, ◌∙◌}
use mathlib.Core.Bool.{true, false}
use mathlib.Core.List.{List, [], ◌∷◌, ◌++◌}
use lib.Dec.{eqb-suc-zero}
use lib.ListN.{length, take, drop, get_or, drop_of_length-le}
use lib.Seq.{drop-cons, length-take-le, take-add}
use Rattle.model.specs.Bytes.{zeros}
use Rattle.model.specs.Ledgers.{weighted}
use Rattle.checks.specs.Columns.{total}

-- ---- one number after another: number i, and what comes after it
module _ (l : List ℕ) (i : ℕ) (h : i < length l) where
  pub weight_next : (place : ℕ) → weighted place (drop i l) ≡ (place + 1) * get_or l i 0 + weighted (place + 1) (drop (i + 1) l)
  unfolding weighted
  weight_next place = rw (drop-cons l i 0 h, add-one i, add-one place)

  pub total_next : total (drop i l) ≡ get_or l i 0 + total (drop (i + 1) l)
  unfolding total
  total_next = rw (drop-cons l i 0 h, add-one i)

-- and nothing at the end
module _ (l : List ℕ) (i : ℕ) (h : length l ≤ i) where
  pub weight_end : (place : ℕ) → weighted place (drop i l) ≡ 0
  unfolding weighted
  weight_end place = rw (drop_of_length-le l {i = i} h)

  pub total_end : total (drop i l) ≡ 0
  unfolding total
  total_end = rw (drop_of_length-le l {i = i} h)

-- ---- lists one after another
pub total-append : (l m : List ℕ) → total (l ++ m) ≡ total l + total m
unfolding total
total-append [] m = rw zero-add
total-append (b ∷ l) m = let ih = total-append l m in omega arith

weighted-append : (i : ℕ) (l m : List ℕ) → weighted i (l ++ m) ≡ weighted i l + weighted (i + length l) m
unfolding weighted
weighted-append i [] m = rw (add-zero, zero-add)
weighted-append i (b ∷ l) m =
    let e : suc i + length l ≡ i + suc (length l) = omega arith in
    let ih = weighted-append (suc i) l m in
    rw (ih, e) (sym (add_assoc ((i + 1) * b) (weighted (suc i) l) (weighted (i + suc (length l)) m)))

-- a byte that stands `at` places further on weighs `at` more
weighted_shift : (at i : ℕ) (l : List ℕ) → weighted (at + i) l ≡ at * total l + weighted i l
unfolding weighted total
weighted_shift at i [] = rw (mul-zero, zero-add)
weighted_shift at i (b ∷ l) =
    let ih : weighted (at + suc i) l ≡ at * total l + weighted (suc i) l = weighted_shift at (suc i) l in
    let e : suc (at + i) ≡ at + suc i = omega arith in
    let d : (at + i + 1) * b ≡ at * b + (i + 1) * b = rw (add_assoc) (add-mul at (i + 1) b) in
    let f : at * (b + total l) ≡ at * b + at * total l = mul-add at b (total l) in
    rw (e, ih, d, f) (omega arith)

-- the numbers from i on weigh their total, and what those after i weigh by themselves
pub weight_once_more : (l : List ℕ) (i : ℕ) → i < length l → weighted 0 (drop i l) ≡ total (drop i l) + weighted 0 (drop (i + 1) l)
weight_once_more l i h =
    omega (arith, weight_next l i h 0, total_next l i h, weighted_shift 1 0 (drop (i + 1) l), zero-add 1)

-- the first m bytes, and the k that follow
module _ (m k : ℕ) (l : List ℕ) (h : m ≤ length l) where
  pub weight_parts : weighted 0 (take (m + k) l) ≡ weighted 0 (take m l) + weighted m (take k (drop m l))
  weight_parts =
      ap (weighted 0) (take-add m k l) ∙ weighted-append 0 (take m l) (take k (drop m l))
      ∙ ap (λ (place : ℕ). weighted 0 (take m l) + weighted place (take k (drop m l))) (zero-add (length (take m l)) ∙ length-take-le m l h)

  pub weight_rows : weighted 0 (take (m + k) l) ≡ weighted 0 (take m l) + (m * total (take k (drop m l)) + weighted 0 (take k (drop m l)))
  weight_rows =
      weight_parts
      ∙ ap (λ (w : ℕ). weighted 0 (take m l) + w) (ap (λ (place : ℕ). weighted place (take k (drop m l))) (sym (add-zero m)) ∙ weighted_shift m 0 (take k (drop m l)))

-- ---- filler weighs nothing
pub weighted-zeros : (i : ℕ) (l : List ℕ) → zeros l ≡ true → weighted i l ≡ 0
unfolding weighted zeros
weighted-zeros i [] e = refl
weighted-zeros i (zero ∷ l) e = rw (mul-zero, zero-add) (weighted-zeros (suc i) l e)
weighted-zeros i (suc b ∷ l) e =
    let f : false ≡ true = rw eqb-suc-zero at e in
    cc

-- ---- a byte that weighs at most 510 adds at most 510 × 255
pub weighted_most : (i n : ℕ) (l : List ℕ) → i + n ≤ 510 → ((k : ℕ) → get_or l k 0 ≤ 255) → weighted i (take n l) ≤ 130050 * n
unfolding weighted
weighted_most i zero l h bytes = omega arith
weighted_most i (suc n) [] h bytes = omega arith
weighted_most i (suc n) (b ∷ l) h bytes =
    omega (arith, mul-le-mul {n₁ = i + 1} {m₁ = b} {n₂ = 510} {m₂ = 255} (omega arith) (bytes 0), weighted_most (suc i) n l (omega arith) (λ k. bytes (suc k)))

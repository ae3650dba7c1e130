-- The bytes of a word of marks are the extract's. Assumes nothing.
use mathlib.Core.Path.{◌≡◌, refl, sym, ap, ap₂, ◌∙◌}
use mathlib.Core.Bool.{Bool}
use mathlib.Core.List.{List, ◌∷◌}
use Prim.Native.Nat.{ℕ, zero, suc, ◌+◌, ◌*◌, ◌/◌, ◌%◌, ◌^◌}
use native.Mathlib.Nat.{pow-suc, div-div-eq-div-mul}
use Rattle.std.specs.Int.{bytes_low_first, to_le_bytes}
use Rattle.std.proofs.Common.{w64}
use native.Mathlib.Omega.{arith}
use lib.ListN.{length}
use Rattle.model.specs.Coalitions.{packed}
use Rattle.model.specs.Extracts.{packed_bytes}
use Rattle.model.proofs.Packed.{packed_lt}
use Rattle.words.proofs.Packing.{packed_split}
use Rattle.extracts.specs.Halves.{little_endian}

pub length_bytes : (k x : ℕ) → length (little_endian k x) ≡ k
unfolding little_endian
length_bytes zero x = refl
length_bytes (suc k) x = ap suc (length_bytes k (x / 256))

-- they are what the library's method gives
bytes_from : (i k x : ℕ) → bytes_low_first (suc i) k x ≡ little_endian k (x / 256 ^ suc i)
unfolding little_endian
bytes_from i zero x = refl
bytes_from i (suc k) x =
    ap (λ (l : List ℕ). x / 256 ^ suc i % 256 ∷ l)
    (bytes_from (suc i) k x ∙ ap (little_endian k) (ap (λ (m : ℕ). x / m) (pow-suc 256 (suc i)) ∙ sym (div-div-eq-div-mul x (256 ^ suc i) 256)))

pub bytes_are : (x : ℕ) → to_le_bytes w64 x ≡ little_endian 8 x
unfolding little_endian
bytes_are x = ap (λ (l : List ℕ). x % 256 ∷ l) (bytes_from 0 7 x)

-- the k bytes of 8 × k marks
pub marks_bytes : (f : ℕ → Bool) (j k : ℕ) → little_endian k (packed f (8 * j) (8 * k)) ≡ packed_bytes f j k
unfolding little_endian packed_bytes
marks_bytes f j zero = refl
marks_bytes f j (suc k) =
    let e : 8 * suc k ≡ 8 + 8 * k = omega arith in
    let i : 8 * j + 8 ≡ 8 * suc j = omega arith in
    let s = ap (packed f (8 * j)) e ∙ packed_split f (8 * j) 8 (8 * k) in
    let low : packed f (8 * j) (8 * suc k) % 256 ≡ packed f (8 * j) 8 = omega (arith, s, packed_lt f (8 * j) 8) in
    let high : packed f (8 * j) (8 * suc k) / 256 ≡ packed f (8 * j + 8) (8 * k) = omega (arith, s, packed_lt f (8 * j) 8) in
    ap₂ (λ (x : ℕ) (l : List ℕ). x ∷ l) low (ap (little_endian k) (high ∙ ap (λ (x : ℕ). packed f x (8 * k)) i) ∙ marks_bytes f (suc j) k)

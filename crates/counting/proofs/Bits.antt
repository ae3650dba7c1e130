-- The bits of grants, one for each, made from the last grant down. Assumes nothing.
use mathlib.Core.Path.{◌≡◌, refl, sym, ap₂, ◌∙◌}
use mathlib.Core.Bool.{Bool, true, false}
use Prim.Native.Nat.{ℕ, suc, ◌-◌, ◌*◌, ◌%◌, ◌^◌, ◌≤◌, ◌<◌}
use native.Mathlib.Nat.{mod-eq_of_lt}
use native.Mathlib.Omega.{arith}
use mir.Val.{bool_byte}
use lib.Bits.{bit_or, or_shifted}
use lib.Pow.{pow_mono}
use Rattle.model.specs.Coalitions.{bit, packed}
use Rattle.model.proofs.Packed.{bit_lt, packed_lt}
use Rattle.words.proofs.Packing.{packed_zero}

byte-bit : (b : Bool) → bool_byte b ≡ bit b
byte-bit true = refl
byte-bit false = refl

-- past the last grant no bit is set
pub bits_none : (f : ℕ → Bool) (k : ℕ) → ((c : ℕ) → k ≤ c → f c ≡ false) → 0 ≡ packed f k (64 - k)
bits_none f k h = sym ((packed_zero f k (64 - k)).1 (λ c l _. h c l))

-- one bit more, from the top down
pub bits_more : (f : ℕ → Bool) (k x : ℕ) (b : Bool) → 0 < k → k ≤ 64 → x ≡ packed f k (64 - k) → b ≡ f (k - 1) → bit_or (x * 2 % 2 ^ 64) (bool_byte b) ≡ packed f (k - 1) (64 - (k - 1))
unfolding packed
bits_more f k x b some most e m =
    let lower : 64 - (k - 1) ≡ suc (64 - k) = omega arith in
    let upper : suc (k - 1) ≡ k = omega arith in
    let half : 64 - k ≤ 63 = omega arith in
    let low : x * 2 % 2 ^ 64 ≡ x * 2 = mod-eq_of_lt (omega (arith, packed_lt f k (64 - k), pow_mono half)) in
    ap₂ bit_or low (byte-bit b) ∙ or_shifted x 1 (bit b) (bit_lt b)
    ∙ rw (lower, upper) (rw (← m, ← e) (omega arith))

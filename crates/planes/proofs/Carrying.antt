-- Adding 1 digit by digit: what is carried into digit j, for one number and for a row of them. Assumes nothing.
use mathlib.Core.Path.{◌≡◌, refl, sym, ap, ap₂, ◌∙◌}
use mathlib.Core.Bool.{Bool, true, false, not, ◌&&◌, and-true}
use Prim.Native.Nat.{ℕ, zero, suc, ◌+◌, ◌*◌, ◌/◌, ◌%◌, ◌^◌, ◌<◌, ◌≤◌}
use native.Mathlib.Nat.{div-one, zero-div, pow-suc, div-div-eq-div-mul}
use native.Mathlib.Numerals.{add-one}
use native.Mathlib.Decide.{dec_lt}
use native.Mathlib.Omega.{arith}
use lib.Bits.{bit_xor, xor_add_and}
use lib.Dec.{eqb}
use borrow.Author.Tests.{eq-eqb, ne_eqb}
use Rattle.model.specs.Coalitions.{member, bit, packed}
use Rattle.model.proofs.Truth.{clash}
use Rattle.model.proofs.Packed.{bits_ext}
use Rattle.words.specs.declared.Row.{Row}
use Rattle.words.specs.FourWords.{RowAt, each_word, lacks_word}
use Rattle.planes.specs.Digits.{other, Carrying}
use Rattle.words.proofs.Packing.{packed-and}
use Rattle.words.proofs.FourWords.{each_in, row_both, row_lacks, row_cong}

both_bits : (a b : Bool) → bit (other a b) + bit (a && b) * 2 ≡ bit a + bit b
both_bits false false = refl
both_bits false true = refl
both_bits true false = refl
both_bits true true = refl

both_words : (f g : ℕ → Bool) (i k : ℕ) → packed (λ c. other (f c) (g c)) i k + packed (λ c. f c && g c) i k * 2 ≡ packed f i k + packed g i k
unfolding packed
both_words f g i zero = refl
both_words f g i (suc k) = omega (arith, both_bits (f i) (g i), both_words f g (suc i) k)

-- the code's `^`, of words and of rows
packed_xor : (f g : ℕ → Bool) (i k : ℕ) → bit_xor (packed f i k) (packed g i k) ≡ packed (λ c. other (f c) (g c)) i k
packed_xor f g i k = omega (arith, xor_add_and (packed f i k) (packed g i k), both_words f g i k, packed-and f g i k)

row_other : (g : ℕ) (f h : ℕ → Bool) (x y : Row) → RowAt f g x → RowAt h g y → RowAt (λ c. other (f c) (h c)) g (each_word bit_xor x y)
row_other g f h x y a b = record { word = λ j l. each_in bit_xor x y j ∙ ap₂ bit_xor (a.word j l) (b.word j l) ∙ packed_xor f h (64 * (4 * g + j)) 64 }

-- ---- one number

-- what is carried into digit j, where b is added to x
unfoldable pub carried : ℕ → ℕ → Bool → Bool
carried zero x b = b
carried (suc j) x b = member j x && carried j x b

half_more : (y : ℕ) (b : Bool) → (y + bit b) / 2 ≡ y / 2 + bit (eqb (y % 2) 1 && b)
half_more y b = go (y % 2) refl b
  where
    go : (r : ℕ) → y % 2 ≡ r → (b : Bool) → (y + bit b) / 2 ≡ y / 2 + bit (eqb r 1 && b)
    go zero e true = omega arith
    go zero e false = omega arith
    go (suc zero) e true = omega arith
    go (suc zero) e false = omega arith
    go (suc (suc r)) e b = absurd (omega arith)

low_more : (y : ℕ) (b : Bool) → eqb ((y + bit b) % 2) 1 ≡ other (eqb (y % 2) 1) b
low_more y b = go (y % 2) refl b
  where
    go : (r : ℕ) → y % 2 ≡ r → (b : Bool) → eqb ((y + bit b) % 2) 1 ≡ other (eqb r 1) b
    go zero e true = let h : (y + 1) % 2 ≡ 1 = omega arith in rw h
    go zero e false = let h : (y + 0) % 2 ≡ 0 = omega arith in rw h
    go (suc zero) e true = let h : (y + 1) % 2 ≡ 0 = omega arith in rw h
    go (suc zero) e false = let h : (y + 0) % 2 ≡ 1 = omega arith in rw h
    go (suc (suc r)) e b = absurd (omega arith)

-- from digit j up, the sum is the number with what is carried
carry_high : (j x : ℕ) (b : Bool) → (x + bit b) / 2 ^ j ≡ x / 2 ^ j + bit (carried j x b)
unfolding carried member
carry_high zero x b = div-one (x + bit b) ∙ ap (λ (y : ℕ). y + bit b) (sym (div-one x))
carry_high (suc j) x b =
    ap (λ (m : ℕ). (x + bit b) / m) (pow-suc 2 j) ∙ sym (div-div-eq-div-mul (x + bit b) (2 ^ j) 2)
    ∙ ap (λ (y : ℕ). y / 2) (carry_high j x b)
    ∙ half_more (x / 2 ^ j) (carried j x b)
    ∙ ap (λ (y : ℕ). y + bit (member j x && carried j x b)) (div-div-eq-div-mul x (2 ^ j) 2 ∙ ap (λ (m : ℕ). x / m) (sym (pow-suc 2 j)))

-- digit j of the sum
carry_digit : (j x : ℕ) (b : Bool) → member j (x + bit b) ≡ other (member j x) (carried j x b)
unfolding member
carry_digit j x b = ap (λ (y : ℕ). eqb (y % 2) 1) (carry_high j x b) ∙ low_more (x / 2 ^ j) (carried j x b)

other_twice : (a b : Bool) → other (other a b) b ≡ a
other_twice true true = refl
other_twice true false = refl
other_twice false true = refl
other_twice false false = refl

-- ---- a row of them

-- 1 more at each that is marked
abbrev pub plus : (ℕ → ℕ) → (ℕ → Bool) → ℕ → ℕ
plus f m c = f c + bit (m c)

-- digit j of the numbers f
abbrev pub DigitOf : (ℕ → ℕ) → ℕ → ℕ → Row → Type 0
DigitOf f j g x = RowAt (λ c. member j (f c)) g x

module _ (g : ℕ) (f : ℕ → ℕ) (m : ℕ → Bool) where
  pub carrying_up : (of : Row → Row → Row → Type 0) → ((x y z : Row) → of x y z → z ≡ x) → Carrying of g f (plus f m) m
  unfolding carried
  carrying_up of is = record {
    carry = λ j c. carried j (f c) (m c);
    first = λ x e. e;
    digit = λ j c. carry_digit j (f c) (m c);
    next = λ j x y z a b e. rw (is x _ z e, add-one) (row_both g _ _ x y a b);
  }

  pub carrying_down : (of : Row → Row → Row → Type 0) → ((x y z : Row) → of x y z → z ≡ y) → Carrying of g (plus f m) f m
  carrying_down of is = record {
    carry = λ j c. carried j (f c) (m c);
    first = λ x e. unfold carried in e;
    digit = λ j c. sym (digit_back j c);
    next = λ j x y z a b e. unfold carried in rw (is x _ z e, add-one) (row_both g _ _ (each_word bit_xor x y) y (changed j x y a b) b);
  }
    where
      digit_back : (j c : ℕ) → other (member j (f c + bit (m c))) (carried j (f c) (m c)) ≡ member j (f c)
      digit_back j c = ap (λ (d : Bool). other d (carried j (f c) (m c))) (carry_digit j (f c) (m c)) ∙ other_twice (member j (f c)) (carried j (f c) (m c))

      changed : (j : ℕ) (x y : Row) → DigitOf (plus f m) j g x → RowAt (λ c. carried j (f c) (m c)) g y → DigitOf f j g (each_word bit_xor x y)
      changed j x y a b = row_cong g _ (λ c. member j (f c)) _ (λ c _ _. digit_back j c) (row_other g _ _ x y a b)

-- a digit of the new numbers
pub new_digit : (g : ℕ) (f h : ℕ → ℕ) (m : ℕ → Bool) (j : ℕ) (x y : Row) (of : Row → Row → Row → Type 0) (d : Carrying of g f h m)
    → DigitOf f j g x → RowAt (d.carry j) g y → DigitOf h j g (each_word bit_xor x y)
new_digit g f h m j x y of d e k = row_cong g _ (λ c. member j (h c)) _ (λ c _ _. sym (d.digit j c)) (row_other g _ _ x y e k)

-- ---- where a number is 0

-- no digit before digit j is 1
unfoldable pub bare : ℕ → ℕ → Bool
bare zero x = true
bare (suc j) x = bare j x && not (member j x)

pub member_none : (i : ℕ) → member i 0 ≡ false
unfolding member
member_none i = let e : 0 / 2 ^ i % 2 ≡ 0 = omega (arith, zero-div (2 ^ i)) in rw e

bare_before : (j x : ℕ) → bare j x ≡ true → (i : ℕ) → i < j → member i x ≡ false
unfolding bare
bare_before zero x e i l = absurd (omega arith)
bare_before (suc j) x e i l = elim (dec_lt i j) [
  | yes h ↦ bare_before j x (first (bare j x) (member j x) e) i h
  | no h ↦ (let s : i ≡ j = omega arith in rw s (second (bare j x) (member j x) e))
]
  where
    first : (a b : Bool) → (a && not b) ≡ true → a ≡ true
    first true b e = refl
    first false b e = e

    second : (a b : Bool) → (a && not b) ≡ true → b ≡ false
    second true false e = refl
    second true true e = absurd (clash e refl)
    second false b e = absurd (clash e refl)

bare_none : (j : ℕ) → bare j 0 ≡ true
unfolding bare
bare_none zero = refl
bare_none (suc j) = rw (bare_none j, member_none j)

-- a number below 128 without digits is 0
pub no_digits : (x : ℕ) → x < 128 → bare 7 x ≡ eqb x 0
no_digits x l = go (bare 7 x) refl
  where
    go : (b : Bool) → bare 7 x ≡ b → b ≡ eqb x 0
    go false e = sym (ne_eqb x 0 (λ z. clash (ap (bare 7) z ∙ bare_none 7) e))
    go true e = sym (eq-eqb x 0 (bits_ext 7 x 0 l (omega arith) (λ i h. bare_before 7 x e i h ∙ sym (member_none i))))

-- those of m whose number has no digit before digit j
abbrev pub BareOf : (ℕ → ℕ) → (ℕ → Bool) → ℕ → ℕ → Row → Type 0
BareOf f m j g x = RowAt (λ c. m c && bare j (f c)) g x

pub bare_start : (f : ℕ → ℕ) (m : ℕ → Bool) (g : ℕ) (x : Row) → RowAt m g x → BareOf f m 0 g x
unfolding bare
bare_start f m g x h = row_cong g m _ x (λ c _ _. sym (and-true (m c))) h

pub bare_more : (f : ℕ → ℕ) (m : ℕ → Bool) (g j : ℕ) (x y : Row) → BareOf f m j g x → DigitOf f j g y → BareOf f m (j + 1) g (each_word lacks_word x y)
unfolding bare
bare_more f m g j x y a b = rw (add-one) (row_cong g _ _ _ (λ c _ _. shift (m c) (bare j (f c)) (member j (f c))) (row_lacks g _ _ x y a b))
  where
    shift : (a b d : Bool) → ((a && b) && not d) ≡ (a && (b && not d))
    shift true b d = refl
    shift false b d = refl

pub bare_all : (f : ℕ → ℕ) (m : ℕ → Bool) (g : ℕ) (x : Row) → ((c : ℕ) → 256 * g ≤ c → c < 256 * g + 256 → f c < 128) → BareOf f m 7 g x → RowAt (λ c. m c && eqb (f c) 0) g x
bare_all f m g x small h = row_cong g _ _ x (λ c a b. ap (λ (z : Bool). m c && z) (no_digits (f c) (small c a b))) h

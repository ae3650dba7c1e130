-- Filler, told by what all bytes leave when they are put together by `or`. Assumes nothing.
use Rattle.std.proofs.Common.{◌≡◌, ℕ, zero, suc, ◌+◌, ◌-◌, ◌≤◌, ◌<◌, Bool, true, false, ◌&&◌, ◌∙◌, refl, sym, List, [], ◌∷◌, ap, arith, length, take, drop, length-take, bit_or, fold, eqb}
use native.Mathlib.Numerals.{unary_clauses}
use lib.Seq.{take_all, take-nil, drop-drop}
use mathlib.Core.Bool.{and_assoc, and-true}
use lib.Dec.{eqb-suc-zero}
use lib.Bits.{or_add_and, and_le_l, and_le_r, or_zero_l}
use borrow.Author.Tests.{ne_eqb}
use Rattle.model.specs.Bytes.{zeros}

-- a byte put in by `or` leaves 0 exactly if it is 00
or_none : (a b : ℕ) → eqb (bit_or a b) 0 ≡ (eqb a 0 && eqb b 0)
or_none zero zero = refl
or_none zero (suc b) = rw (or_zero_l (suc b))
or_none (suc a) b = rw eqb-suc-zero (ne_eqb (bit_or (suc a) b) 0 (λ e. omega (arith, or_add_and (suc a) b, and_le_l (suc a) b, and_le_r (suc a) b)))

-- what is put in to `any` leaves 0 exactly if `any` and all bytes are 00
pub or_all : (l : List ℕ) (any : ℕ) → eqb (fold (λ a b. bit_or a b) any l) 0 ≡ (eqb any 0 && zeros l)
unfolding zeros
or_all [] any = sym (and-true (eqb any 0))
or_all (b ∷ l) any = or_all l (bit_or any b) ∙ rw (or_none any b, and_assoc)

-- What is left of the first n, once k are passed.
drop-take : (k n : ℕ) (l : List ℕ) → drop k (take n l) ≡ take (n - k) (drop k l)
drop-take zero n l = simp unary_clauses
drop-take (suc k) zero l =
    let none : 0 - suc k ≡ 0 = omega arith in
    rw none
drop-take (suc k) (suc n) [] = sym (take-nil (suc n - suc k))
drop-take (suc k) (suc n) (b ∷ l) = simp unary_clauses (drop-take k n l)

-- of a field of n bytes, what is behind its first k
pub behind : (at k n : ℕ) (l : List ℕ) → take n (drop k (take n (drop at l))) ≡ take (n - k) (drop (at + k) l)
behind at k n l =
    let rest = drop (at + k) l in
    simp (drop-take, drop-drop) (take_all n (take (n - k) rest) (omega (arith, length-take (n - k) rest)))

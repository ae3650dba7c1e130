-- What is known of the grants, before one is judged and after. Assumes nothing.
use mathlib.Core.Path.{◌≡◌, refl, sym, ap, ◌∙◌}
use mathlib.Core.Bool.{Bool, true, false, cond}
use Prim.Native.Nat.{ℕ, ◌-◌, ◌^◌, ◌<◌}
use native.Mathlib.Decide.{ℕ_discrete, dec_lt}
use native.Mathlib.Omega.{arith}
use Rattle.model.specs.Coalitions.{member}
use Rattle.model.proofs.Truth.{clash}
use Rattle.model.proofs.Packed.{member-packed}
use Rattle.model.proofs.Monotone.{less_lacks, less_keeps}
use Rattle.words.proofs.Packing.{packed_all, past_word}
use Rattle.counting.specs.declared.Known.{Known}
use Rattle.counting.specs.Counted.{nothing_known, KnownOf, judged_at}

all_on : (k : ℕ) → k < 64 → member k 0xFFFF_FFFF_FFFF_FFFF ≡ true
all_on k h = ap (member k) (sym (packed_all 0 64)) ∙ member-packed (λ c. true) 0 64 k h

pub known_nothing : (f : ℕ → Bool) → KnownOf f nothing_known
known_nothing f = record {
  judged = λ k h e. absurd (clash (all_on k h) e);
  closed = λ k h e. absurd (clash (all_on k h) e);
}

-- so a grant that may count is one of the 64
pub may_below : (k x : ℕ) → x < 2 ^ 64 → member k x ≡ true → k < 64
may_below k x small e = elim (dec_lt k 64) [
  | yes h ↦ h
  | no h ↦ absurd (clash e (past_word k x (omega arith) small))
]

-- the cases of the code in which grant k is judged
module _ (k : ℕ) (known : Known) (may : member k known.possible ≡ true) (bit : ℕ) (is : bit ≡ 2 ^ k) (e : member k known.unjudged ≡ true) where
  pub judged_yes : (b : Bool) → b ≡ true → record { unjudged = known.unjudged - bit; possible = known.possible } ≡ judged_at b k known
  judged_yes b c = rw (is, may, e, c)

  pub judged_no : (b : Bool) → b ≡ false → record { unjudged = known.unjudged - bit; possible = known.possible - bit } ≡ judged_at b k known
  judged_no b c = rw (is, may, e, c)

-- Judging a grant that may count keeps what is known true, and afterwards the grant may count exactly if it counts.
pub record Judged (f : ℕ → Bool) (k : ℕ) (known : Known) : Type 0 where
  pub still_so : KnownOf f known
  pub says : member k known.possible ≡ f k

pub known_judged : (f : ℕ → Bool) (k : ℕ) (known : Known) → k < 64 → KnownOf f known → member k known.possible ≡ true → Judged f k (judged_at (f k) k known)
known_judged f k known h so may-count = rw may-count (by (member k known.unjudged) (f k) refl refl)
  where
    by : (u b : Bool) → member k known.unjudged ≡ u → f k ≡ b → Judged f k (cond u (record { unjudged = known.unjudged - 2 ^ k; possible = cond b known.possible (known.possible - 2 ^ k) }) known)
    by false b e c = record { still_so = so; says = so.judged k h e }
    by true true e c = record {
      still_so = record {
        judged = λ j l z. elim (ℕ_discrete j k) [
          | yes q ↦ rw (q, may-count, c)
          | no d ↦ so.judged j l (sym (less_keeps k j known.unjudged e d) ∙ z)
        ];
        closed = so.closed;
      };
      says = may-count ∙ sym c;
    }
    by true false e c = record {
      still_so = record {
        judged = λ j l z. elim (ℕ_discrete j k) [
          | yes q ↦ rw q (less_lacks k known.possible may-count ∙ sym c)
          | no d ↦ less_keeps k j known.possible may-count d ∙ so.judged j l (sym (less_keeps k j known.unjudged e d) ∙ z)
        ];
        closed = λ j l z. elim (ℕ_discrete j k) [
          | yes q ↦ rw q c
          | no d ↦ so.closed j l (sym (less_keeps k j known.possible may-count d) ∙ z)
        ];
      };
      says = less_lacks k known.possible may-count ∙ sym c;
    }

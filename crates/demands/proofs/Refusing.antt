-- What a chain of readings can refuse (document 01, "Refusals by operation"). Assumes nothing.
use mathlib.Core.Path.{◌≡◌, refl}
use Prim.Native.Nat.{ℕ, ◌+◌, ◌≤◌}
use mathlib.Core.Bool.{Bool, true, false, ◌&&◌}
use mathlib.Core.List.{List, [], ◌∷◌}
use native.Mathlib.Omega.{arith}
use lib.ListN.{length}
use Rattle.model.specs.Bytes.{byte}
use Rattle.model.specs.Readings.{Reading, accepted, refused, and_then, from, require, refused_as}
use Rattle.model.specs.Terms.{Term, read_term}
use Rattle.model.specs.Dates.{date_or_none, in_order}
use Rattle.model.specs.Grants.{read_under}
use Rattle.model.specs.Ledgers.{read_book, header, grant_blocks, checked, all_checked, header_form, grant_form, read_terms, read_days, read_grant, read_grants, ledger_length, read_ledger}
use Rattle.model.specs.Answers.{Answer, Refused, given}
use Rattle.model.proofs.Refusals.{refused_number}

-- no refusal of the reading but one of R
abbrev pub Only : {A : Type 0} → (ℕ → Type 0) → Reading A → Type 0
Only R (accepted a) = Unit {0}
Only R (refused r) = R r

module _ (R : ℕ → Type 0) where
  pub only-require : {A : Type 0} (b : Bool) (r : ℕ) (x : Reading A) → R r → Only R x → Only R (require b r x)
  only-require true r x h o = o
  only-require false r x h o = h

  pub only_then : {A B : Type 0} (x : Reading A) (next : A → Reading B) → Only R x → ((a : A) → Only R (next a)) → Only R (and_then x next)
  only_then (accepted a) next o h = h a
  only_then (refused r) next o h = o

  only-from : {A : Type 0} (base : ℕ) (x : Reading A) → Only (λ r. R (base + r)) x → Only R (from base x)
  only-from base (accepted a) o = tt
  only-from base (refused r) o = o

  only_as : {A : Type 0} (r : ℕ) (x : Reading A) → R r → Only R (refused_as r x)
  only_as r (accepted a) h = tt
  only_as r (refused k) h = h

  -- a term refuses by 1 to 4
  pub only_term : (n : ℕ) (cs : List ℕ) → ((r : ℕ) → 1 ≤ r → r ≤ 4 → R r) → Only R (read_term n cs)
  only_term n cs h = go (read_term n cs) refl
    where
      go : (x : Reading Term) → read_term n cs ≡ x → Only R x
      go (accepted t) e = tt
      go (refused r) e = let w = refused_number n cs r e in h r w.0 w.1

  -- a grant by 13 and 14, 84 and 85
  pub only_grant : R 13 → R 14 → R 84 → R 85 → (n : ℕ) (b : List ℕ) → Only R (read_grant n b)
  unfolding read_grant read_days
  only_grant form terms date order n b =
      only-require (grant_form b) 13 _ form
      (only_then (refused_as 14 (read_terms n b)) read_days (only_as 14 (read_terms n b) terms)
      (λ g. only-require (date_or_none g.first && date_or_none g.last) 84 _ date
      (only-require (in_order g.first g.last) 85 (accepted g) order tt)))

  module _ (h : (r : ℕ) → 10 ≤ r → r ≤ 14 → R r) (k : (r : ℕ) → 84 ≤ r → r ≤ 85 → R r) where
    only_grants : (n : ℕ) (bs : List (List ℕ)) → Only R (read_grants n bs)
    unfolding read_grants
    only_grants n [] = tt
    only_grants n (b ∷ bs) = only_then (read_grant n b) _ (only_grant (h 13 (omega arith) (omega arith)) (h 14 (omega arith) (omega arith)) (k 84 (omega arith) (omega arith)) (k 85 (omega arith) (omega arith)) n b) (λ g. only_then (read_grants n bs) _ (only_grants n bs) (λ gs. tt))

    -- a ledger by 10 to 14, 84 and 85
    pub only_ledger : (bytes : List ℕ) → Only R (read_ledger bytes)
    unfolding read_ledger
    only_ledger bytes =
        only-require (ledger_length (length bytes)) 10 _ (h 10 (omega arith) (omega arith))
        (only-require (checked (header bytes) && all_checked (grant_blocks bytes)) 11 _ (h 11 (omega arith) (omega arith))
        (only-require (header_form (length (grant_blocks bytes)) (header bytes)) 12 _ (h 12 (omega arith) (omega arith))
        (only_then (read_grants (byte 1 bytes) (grant_blocks bytes)) _ (only_grants (byte 1 bytes) (grant_blocks bytes)) (λ gs. tt))))

-- a term whose refusals are counted from a base
pub only_part : (R : ℕ → Type 0) (base n : ℕ) (cs : List ℕ) → ((r : ℕ) → 1 ≤ r → r ≤ 4 → R (base + r)) → Only R (from base (read_term n cs))
only_part R base n cs h = only-from R base (read_term n cs) (only_term (λ r. R (base + r)) n cs h)

-- a label refuses by 41 to 44
pub only_under : (R : ℕ → Type 0) (n : ℕ) (label : List ℕ) (day : ℕ) → ((r : ℕ) → 1 ≤ r → r ≤ 4 → R (40 + r)) → Only R (read_under n label day)
only_under R n label day h = only_then R (from 40 (read_term n label)) _ (only_part R 40 n label h) (λ L. tt)

-- a ledger and a label by both
pub only_book : (R : ℕ → Type 0) (ledger label : List ℕ) (day : ℕ) → ((r : ℕ) → 10 ≤ r → r ≤ 14 → R r) → ((r : ℕ) → 84 ≤ r → r ≤ 85 → R r) → ((r : ℕ) → 1 ≤ r → r ≤ 4 → R (40 + r)) → Only R (read_book ledger label day)
unfolding read_book
only_book R ledger label day h k t = only_then R (read_ledger ledger) _ (only_ledger R h k ledger) (λ l. only_then R (read_under l.names label day) _ (only_under R l.names label day t) (λ u. tt))

-- what follows from a reading, where its refusal is the answer
pub given_case : {A : Type 0} (P : Answer → Type 0) (x : Reading A) (next : A → Answer) → Only (λ r. P (Refused r)) x → ((a : A) → x ≡ accepted a → P (next a)) → P (given x next)
given_case P (accepted a) next o h = h a refl
given_case P (refused r) next o h = o

-- What the code compares is what a rule asks for. Assumes nothing.
use Prim.Native.Nat.{ℕ, ◌≤◌}
use native.Mathlib.Omega.{arith}
use mathlib.Core.Path.{◌≡◌, refl, ◌∙◌}
use mathlib.Core.Bool.{Bool, true, false, ◌&&◌, false≢true}
use mathlib.Core.List.{List}
use lib.Dec.{leb}
use lib.ListN.{length}
use borrow.Author.Tests.{ltb-true}
use Rattle.model.specs.Bytes.{byte, same}
use Rattle.model.specs.Readings.{Reading, accepted, refused, require, is_accepted}
use Rattle.model.specs.Terms.{Term, bottom, codes, read_term}
use Rattle.model.specs.Grants.{Grant, acts_statically}
use Rattle.model.specs.Ledgers.{Ledger, p_bytes, q_bytes, grant_block}
use Rattle.model.specs.Derivations.{left, right, static, granted, read_left, read_right, meets}
use Rattle.model.proofs.Stands.{ledger_stands}
use Rattle.model.proofs.Prefixes.{of_grant-get_or}
use Rattle.words.specs.AnyBytes.{term_in}
use Rattle.words.proofs.AnyBytes.{term_in_lem}
use Rattle.words.specs.Evaluation.{job_of}
use Rattle.words.proofs.Names.{job_is}
use Rattle.derivations.specs.Steps.{Ready}

-- a term that was read, its length being at most 64
record FieldRead (n : ℕ) (bytes : List ℕ) (whole : Reading Term) : Type 0 where
  term : Term
  is : read_term n bytes ≡ accepted term
  whole_is : whole ≡ accepted term

field_read : (n : ℕ) (bytes : List ℕ) (short : Bool) → is_accepted (require short 1 (read_term n bytes)) ≡ true → FieldRead n bytes (require short 1 (read_term n bytes))
field_read n bytes false e = absurd (false≢true e)
field_read n bytes true e = by (read_term n bytes) refl e
  where
    by : (a : Reading Term) → read_term n bytes ≡ a → is_accepted a ≡ true → FieldRead n bytes (read_term n bytes)
    by (accepted t) f g = record { term = t; is = f; whole_is = f }
    by (refused k) f g = absurd (false≢true g)

module _ (ledger : List ℕ) (n : ℕ) (step : List ℕ) (l : Ledger) (a b : List ℕ) (r : Bool) where
  -- rule 1, of the terms that were read
  pub static_met : Ready ledger n static step l → r ≡ acts_statically (job_of n) (term_in (left step)) (term_in (right step)) → r ≡ meets l static step a b
  unfolding meets read_left read_right
  static_met ready judged =
      let p = field_read n (left step) (leb (byte 4 step) 64) ready.left_read in
      let q = field_read n (right step) (leb (byte 5 step) 64) ready.right_read in
      let few : n ≤ 12 = omega (arith, ready.names, (ledger_stands ledger l ready.is).names_most) in
      judged ∙ rw (job_is n few, term_in_lem n (left step) p.term p.is, term_in_lem n (right step) q.term q.is, ← ready.names, p.whole_is, q.whole_is)

  -- rule 2, of the grant's terms where they stand in its block
  pub grant_met : Ready ledger n granted step l
      → r ≡ (same (left step) (p_bytes (grant_block ledger (byte 3 step))) && same (right step) (q_bytes (grant_block ledger (byte 3 step)))) → r ≡ meets l granted step a b
  unfolding meets
  grant_met ready compared =
      let below = ltb-true (byte 3 step) (length l.grants) ready.grant_there in
      let other : Grant = record { p = bottom; q = bottom; label = bottom; first = 0; last = 0 } in
      let stands = (ledger_stands ledger l ready.is).grant (byte 3 step) other below in
      rw (of_grant-get_or (λ g. same (left step) (codes g.p) && same (right step) (codes g.q)) l.grants (byte 3 step) other below, ← stands.p.written, ← stands.q.written) compared

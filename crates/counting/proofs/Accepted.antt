-- What the bits are where the bytes are an accepted ledger and an accepted label. Assumes nothing.
use mathlib.Core.Path.{◌≡◌, sym}
use mathlib.Core.List.{List}
use Prim.Native.Nat.{ℕ, ◌≤◌}
use native.Mathlib.Decide.{dec_lt}
use native.Mathlib.Omega.{arith}
use borrow.Author.Tests.{lt-ltb, le-ltb}
use Rattle.model.specs.Readings.{accepted}
use Rattle.model.specs.Terms.{Term, read_term}
use Rattle.model.specs.Grants.{under, of_grant, counts_under}
use Rattle.model.specs.Ledgers.{Ledger}
use Rattle.model.specs.Meanings.{grant_bits}
use Rattle.model.proofs.Prefixes.{of_grant-get_or, of_grant_past}
use Rattle.model.proofs.Stands.{LedgerStands, ledger_stands}
use Rattle.ledgers.specs.Readings.{LedgerOf}
use Rattle.words.proofs.AnyBytes.{term_in_lem}
use Rattle.words.proofs.Names.{job_is}
use Rattle.words.proofs.Packing.{packed_cong}
use Rattle.counting.specs.Counted.{counts_in, counted_in}
use Rattle.counting.proofs.Standing.{no_grant, grant_in_lem}

module _ (bytes : List ℕ) (n grants : ℕ) (l : Ledger) (h : LedgerOf bytes n grants l) where
  stands : LedgerStands bytes l
  stands = ledger_stands bytes l h.is

  -- n is 12 at most, and grants 64
  pub names_few : n ≤ 12
  names_few = omega (arith, h.names, stands.names_most)

  pub grants_few : grants ≤ 64
  grants_few = omega (arith, h.count, stands.count_most)

  module _ (L : Term) (label : List ℕ) (day : ℕ) (e : read_term n label ≡ accepted L) where
    counts_in_lem : (k : ℕ) → counts_in bytes n grants label day k ≡ of_grant (counts_under (under n L day)) l.grants k
    counts_in_lem k = elim (dec_lt k grants) [
      | yes b ↦
          rw (lt-ltb k grants b, job_is n names_few, term_in_lem n label L e, grant_in_lem bytes l k no_grant h.is (omega (arith, h.count)))
          (sym (of_grant-get_or (counts_under (under n L day)) l.grants k no_grant (omega (arith, h.count))))
      | no b ↦ rw (le-ltb k grants (omega arith)) (sym (of_grant_past (counts_under (under n L day)) l.grants k (omega (arith, h.count))))
    ]

    -- bit k is set exactly if grant k counts
    pub counted_in_lem : counted_in bytes n grants label day ≡ grant_bits (counts_under (under n L day)) l.grants
    unfolding counted_in
    counted_in_lem = rw (le-ltb 64 grants grants_few) (packed_cong (counts_in bytes n grants label day) (of_grant (counts_under (under n L day)) l.grants) 0 64 (λ k _ _. counts_in_lem k))

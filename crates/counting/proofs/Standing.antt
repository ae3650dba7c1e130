-- What stands in a block is what the bytes from its place on stand for: a term, a date. Assumes nothing.
use mathlib.Core.Path.{◌≡◌, sym, ap, ◌∙◌}
use mathlib.Core.List.{List, ◌++◌, append_assoc}
use Prim.Native.Nat.{ℕ, ◌+◌, ◌*◌, ◌≤◌, ◌<◌, min}
use native.Mathlib.Omega.{arith}
use lib.ListN.{length, take, drop, get_or, take-append-drop, length-take, length-drop}
use lib.Seq.{drop-append-le, drop-drop, get_or-take, get_or-drop}
use Rattle.model.specs.Bytes.{byte, field, four_bytes}
use Rattle.model.specs.Readings.{accepted}
use Rattle.model.specs.Terms.{Term, codes, top}
use Rattle.model.specs.Grants.{Grant}
use Rattle.model.specs.Ledgers.{Ledger, grant_block, read_ledger}
use Rattle.model.proofs.Stands.{TermStands, ledger_stands}
use Rattle.words.specs.AnyBytes.{Taken, term_in}
use Rattle.words.proofs.AnyBytes.{taken-codes}
use Rattle.counting.specs.Counted.{grant_in}

-- whatever follows in the block and after it
term_at : (n start at len : ℕ) (bytes : List ℕ) (t : Term) → at ≤ 512 → start + 512 ≤ length bytes → TermStands n (field at len (field start 512 bytes)) t → term_in (drop (start + at) bytes) ≡ t
term_at n start at len bytes t few room s =
    let xs : List ℕ = drop start bytes in
    let block : List ℕ = take 512 xs in
    let from : List ℕ = drop at block in
    let rest : List ℕ = drop len from ++ drop 512 xs in
    let size : at ≤ length block = omega (arith, length-take 512 xs, length-drop start bytes) in
    let there : drop (start + at) bytes ≡ codes t ++ rest =
    sym (drop-drop at start bytes)
    ∙ ap (drop at) (sym (take-append-drop 512 xs))
    ∙ drop-append-le at block (drop 512 xs) size
    ∙ ap (λ (l : List ℕ). l ++ drop 512 xs) (sym (take-append-drop len from))
    ∙ append_assoc (take len from) (drop len from) (drop 512 xs)
    ∙ ap (λ (l : List ℕ). l ++ rest) s.written in
    ap (λ (l : List ℕ). term_in l) there ∙ ap (λ (x : Taken). x.term) (taken-codes n t rest s.below)

byte_at : (start at : ℕ) (bytes : List ℕ) → at < 512 → byte at (field start 512 bytes) ≡ byte (start + at) bytes
byte_at start at bytes h = get_or-take 512 (drop start bytes) at 0 h ∙ get_or-drop start bytes at 0

date_at : (start at : ℕ) (bytes : List ℕ) → at + 4 ≤ 512 → four_bytes at (field start 512 bytes) ≡ four_bytes (start + at) bytes
date_at start at bytes h =
    let second : start + (at + 1) ≡ start + at + 1 = omega arith in
    let third : start + (at + 2) ≡ start + at + 2 = omega arith in
    let fourth : start + (at + 2 + 1) ≡ start + at + 2 + 1 = omega arith in
    rw (
      byte_at start at bytes (omega arith),
      byte_at start (at + 1) bytes (omega arith),
      byte_at start (at + 2) bytes (omega arith),
      byte_at start (at + 2 + 1) bytes (omega arith),
      second,
      third,
      fourth,
    )

-- what stands for a grant past the last
abbrev pub no_grant : Grant
no_grant = record { p = top; q = top; label = top; first = 0; last = 0 }

-- In an accepted ledger grant k is what stands where its terms and its days do; `other` is any grant, for a k past the last.
pub grant_in_lem : (bytes : List ℕ) (l : Ledger) (k : ℕ) (other : Grant) → read_ledger bytes ≡ accepted l → k < length l.grants → grant_in bytes k ≡ get_or l.grants k other
grant_in_lem bytes l k other e below =
    let s = ledger_stands bytes l e in
    let g = s.grant k other below in
    let here : min k 64 ≡ k = omega (arith, s.count_most) in
    let room : 512 * (k + 1) + 512 ≤ length bytes = omega (arith, s.size) in
    let block : List ℕ = grant_block bytes k in
    let p = term_at l.names (512 * (k + 1)) 16 (byte 1 block) bytes (get_or l.grants k other).p (omega arith) room g.p in
    let q = term_at l.names (512 * (k + 1)) 80 (byte 2 block) bytes (get_or l.grants k other).q (omega arith) room g.q in
    let label = term_at l.names (512 * (k + 1)) 144 (byte 3 block) bytes (get_or l.grants k other).label (omega arith) room g.label in
    let first = sym (date_at (512 * (k + 1)) 208 bytes (omega arith)) ∙ g.first in
    let further : 512 * (k + 1) + 208 + 4 ≡ 512 * (k + 1) + 212 = omega arith in
    let last = sym (date_at (512 * (k + 1)) 212 bytes (omega arith)) ∙ g.last in
    rw here (rw further (rw (p, q, label, first, last)))

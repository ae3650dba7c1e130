-- A term's codes are bytes. Assumes nothing.
use mathlib.Core.Path.{◌≡◌}
use Prim.Native.Nat.{ℕ}
use mathlib.Core.List.{List, [], ◌∷◌, ◌++◌}
use native.Mathlib.Omega.{arith}
use Rattle.model.specs.Sides.{confidentiality, integrity}
use Rattle.model.specs.Readings.{accepted}
use Rattle.model.specs.Terms.{Term, name, top, bottom, conj, disj, project, quorum, Terms, nil, cons, count, codes, codes_all, NamesBelow, PartsBelow, read_term}
use Rattle.model.specs.Meanings.{AllBelow}
use Rattle.model.proofs.Reading.{accepted_codes, quorate_true}

below_append : (k : ℕ) (l r : List ℕ) → AllBelow k l → AllBelow k r → AllBelow k (l ++ r)
unfolding AllBelow
below_append k [] r a b = b
below_append k (x ∷ l) r a b = (a.0, below_append k l r a.1 b)

-- a name is below 12, a quorum's k and m are at most 12, and the other codes are below 256
mutual
  unfolding codes NamesBelow AllBelow

  codes_bytes : (n : ℕ) (t : Term) → NamesBelow n t → AllBelow 256 (codes t)
  codes_bytes n (name i) h = (omega arith, tt)
  codes_bytes n top h = (omega arith, tt)
  codes_bytes n bottom h = (omega arith, tt)
  codes_bytes n (conj p q) h = (omega arith, below_append 256 (codes p) (codes q) (codes_bytes n p h.0) (codes_bytes n q h.1))
  codes_bytes n (disj p q) h = (omega arith, below_append 256 (codes p) (codes q) (codes_bytes n p h.0) (codes_bytes n q h.1))
  codes_bytes n (project confidentiality p) h = (omega arith, codes_bytes n p h)
  codes_bytes n (project integrity p) h = (omega arith, codes_bytes n p h)
  codes_bytes n (quorum k ts) h =
      let r = quorate_true k (count ts) h.0 in
      (omega arith, (omega (arith, r), (omega (arith, r), parts_bytes n ts h.1)))

  parts_bytes : (n : ℕ) (ts : Terms) → PartsBelow n ts → AllBelow 256 (codes_all ts)
  parts_bytes n nil h = tt
  parts_bytes n (cons t ts) h = below_append 256 (codes t) (codes_all ts) (codes_bytes n t h.0) (parts_bytes n ts h.1)

-- a list that is accepted as a term is a list of bytes
pub term_bytes : (n : ℕ) (cs : List ℕ) (t : Term) → read_term n cs ≡ accepted t → AllBelow 256 cs
term_bytes n cs t e = let w = (accepted_codes n cs t).0 e in rw w.0 (codes_bytes n t w.1)

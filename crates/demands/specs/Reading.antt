-- Claims about reading terms (document 01, "Terms" and "Refusals by operation", Term; document 02, K4), for every n and every list.
-- Assumes nothing: these are definitions.
use Rattle.std.specs.Prelude.{ℕ, ◌≤◌, ◌↔◌, ◌≡◌, List, ◌++◌, length}
use Rattle.model.specs.Readings.{accepted, refused}
use Rattle.model.specs.Terms.{Term, codes, NamesBelow, read_term}
use Rattle.model.specs.Refusals.{RightLength, WrongLength, EndsEarly, NoCode, CodesLeft}

-- The list is accepted as t exactly if it is the codes of t, at most 64, every name of t is below n, and every quorum of t is in range.
abbrev pub ReadingAndCodesAgree : Type 0
ReadingAndCodesAgree = (n : ℕ) (cs : List ℕ) (t : Term) → read_term n cs ≡ accepted t ↔ ((cs ≡ codes t) × NamesBelow n t × (length cs ≤ 64))

-- Two terms whose codes begin the same list are the same, and so is what is left.
abbrev pub OneReading : Type 0
OneReading = (n : ℕ) (t u : Term) (rest last : List ℕ) → NamesBelow n t → NamesBelow n u → codes t ++ rest ≡ codes u ++ last → (t ≡ u) × (rest ≡ last)

-- 1: the length is 0 or over 64.
abbrev pub Refusal1 : Type 0
Refusal1 = (n : ℕ) (cs : List ℕ) → read_term n cs ≡ refused 1 ↔ WrongLength cs

-- 2: of the right length, a beginning of some term's codes up to where a term is due, and there a byte that is no code, or a name not below n, or a quorum
-- whose k and m are there and out of range.
abbrev pub Refusal2 : Type 0
Refusal2 = (n : ℕ) (cs : List ℕ) → read_term n cs ≡ refused 2 ↔ (RightLength cs × NoCode n cs)

-- 3: of the right length, such a beginning and then nothing, or a quorum's code without k, or with k, whatever it is, and without m.
abbrev pub Refusal3 : Type 0
Refusal3 = (n : ℕ) (cs : List ℕ) → read_term n cs ≡ refused 3 ↔ (RightLength cs × EndsEarly n cs)

-- 4: of the right length, a whole term's codes and then at least one byte, whatever it is.
abbrev pub Refusal4 : Type 0
Refusal4 = (n : ℕ) (cs : List ℕ) → read_term n cs ≡ refused 4 ↔ (RightLength cs × CodesLeft n cs)

-- There is no other refusal of a term.
abbrev pub NoOtherRefusal : Type 0
NoOtherRefusal = (n : ℕ) (cs : List ℕ) (r : ℕ) → read_term n cs ≡ refused r → (1 ≤ r) × (r ≤ 4)

-- Document 01, "Tried sums": the starred cases on its own bytes, and cases for its wrong turns, on every real day (document 02, K2). Assumes nothing: these are the statements.
use Rattle.std.specs.Prelude.{◌≡◌, ℕ, true, List, [], ◌∷◌, ◌++◌, length, replicate}
use Rattle.model.specs.Sides.{Side, confidentiality, integrity}
use Rattle.model.specs.Readings.{accepted}
use Rattle.model.specs.Terms.{Term, read_term, held}
use Rattle.model.specs.Dates.{real_date}
use Rattle.model.specs.Ledgers.{with_check, ledger_of}
use Rattle.model.specs.Answers.{Yes, No}
use Rattle.model.specs.Questions.{acts_for, flows_to}
use Rattle.model.specs.Extracts.{extract}

-- a field of 64 bytes that begins with one or two codes
abbrev pub code1 : ℕ → List ℕ
code1 a = a ∷ replicate 63 0

abbrev pub code2 : ℕ → ℕ → List ℕ
code2 a b = a ∷ b ∷ replicate 62 0

-- Plain: two names and no grants
unfoldable pub plain : List ℕ
plain = 0x01 ∷ 0x02 ∷ replicate 508 0 ++ (0x00 ∷ 0x05 ∷ [])

-- two names and one grant, 00 for 01, with a label of two codes and the check of the grant's block
unfoldable pub one_grant : ℕ → ℕ → ℕ → ℕ → List ℕ
one_grant a b c d = (0x01 ∷ 0x02 ∷ 0x00 ∷ 0x01 ∷ replicate 506 0 ++ (0x00 ∷ 0x09 ∷ []))
    ++ (0x02 ∷ 0x01 ∷ 0x01 ∷ 0x02 ∷ replicate 12 0 ++ code1 0x00 ++ code1 0x01 ++ code2 a b ++ replicate 302 0 ++ (c ∷ d ∷ []))

-- Granted: its label is 41 01
abbrev pub granted : List ℕ
granted = one_grant 0x41 0x01 0x25 0xC3

-- as Granted, with the grant's label 41 00
abbrev pub unspoken : List ℕ
unspoken = one_grant 0x41 0x00 0x25 0x31

-- the bytes are a term of n names that every coalition holds on both sides
pub record HeldEverywhere (n : ℕ) (bytes : List ℕ) : Type 0 where
  pub term : Term
  pub is : read_term n bytes ≡ accepted term
  pub everywhere : (s : Side) (c : ℕ) → held term s c ≡ true

-- an extract whose bytes 0 and 512 are b, and the rest 00
abbrev pub first_bytes : ℕ → List ℕ
first_bytes b = (b ∷ replicate 511 0) ++ (b ∷ replicate 511 0)

-- on every real day: the grants here have open edges
abbrev pub Daily : (ℕ → Type 0) → Type 0
Daily P = (day : ℕ) → real_date day ≡ true → P day

pub record WorkedCases : Type 0 where
  pub a_either : HeldEverywhere 2 (0x31 ∷ 0x40 ∷ 0x00 ∷ 0x41 ∷ 0x01 ∷ [])
  pub a_weakest : HeldEverywhere 2 (0x21 ∷ [])
  pub B : Daily (λ day. acts_for plain (0x30 ∷ 0x00 ∷ 0x01 ∷ []) (0x00 ∷ []) (0x21 ∷ []) day ≡ Yes)
  pub C : Daily (λ day. acts_for plain (0x31 ∷ 0x00 ∷ 0x01 ∷ []) (0x00 ∷ []) (0x21 ∷ []) day ≡ No confidentiality 2)
  pub d_strongest : Daily (λ day. acts_for plain (0x20 ∷ []) (0x00 ∷ []) (0x21 ∷ []) day ≡ Yes)
  pub d_weakest : Daily (λ day. acts_for plain (0x21 ∷ []) (0x20 ∷ []) (0x21 ∷ []) day ≡ No confidentiality 0)
  pub E : Daily (λ day. acts_for granted (0x00 ∷ []) (0x01 ∷ []) (0x41 ∷ 0x01 ∷ []) day ≡ Yes)
  pub F : Daily (λ day. acts_for granted (0x00 ∷ []) (0x01 ∷ []) (0x00 ∷ []) day ≡ No confidentiality 1)
  pub G : Daily (λ day. acts_for unspoken (0x00 ∷ []) (0x01 ∷ []) (0x21 ∷ []) day ≡ No confidentiality 1)
  pub h_granted : Daily (λ day. (buffer : List ℕ) → length buffer ≡ 1024 → extract granted (0x41 ∷ 0x01 ∷ []) day buffer ≡ record { answer = Yes; buffer = first_bytes 0x0D })
  pub h_plain : Daily (λ day. (buffer : List ℕ) → length buffer ≡ 1024 → extract plain (0x41 ∷ 0x01 ∷ []) day buffer ≡ record { answer = Yes; buffer = first_bytes 0x0F })
  pub I : Daily (λ day. flows_to plain (0x40 ∷ 0x00 ∷ []) (0x40 ∷ 0x30 ∷ 0x00 ∷ 0x01 ∷ []) (0x21 ∷ []) day ≡ Yes)
  pub J : Daily (λ day. flows_to plain (0x40 ∷ 0x30 ∷ 0x00 ∷ 0x01 ∷ []) (0x40 ∷ 0x00 ∷ []) (0x21 ∷ []) day ≡ No confidentiality 1)

-- two names and the grant 00 for 40 01, with the label 41 00: the change side of 40 01 is held always, its see side is not
unfoldable pub side_spoken : List ℕ
side_spoken = ledger_of 2 (with_check (0x02 ∷ 0x01 ∷ 0x02 ∷ 0x02 ∷ replicate 12 0 ++ code1 0x00 ++ code2 0x40 0x01 ++ code2 0x41 0x00 ++ replicate 302 0) ∷ [])

-- two names and the grant 00 for 01, with the label 30 40 00 41 01
unfoldable pub side_labelled : List ℕ
side_labelled = ledger_of 2 (with_check (0x02 ∷ 0x01 ∷ 0x01 ∷ 0x05 ∷ replicate 12 0 ++ code1 0x00 ++ code1 0x01 ++ (0x30 ∷ 0x40 ∷ 0x00 ∷ 0x41 ∷ 0x01 ∷ []) ++ replicate 361 0) ∷ [])

-- Each answer is another one where the wrong turn is taken.
pub record WrongTurns : Type 0 where
  -- the full coalition, 3, does not hold 20
  pub full_lacks_strongest : Daily (λ day. acts_for plain (0x30 ∷ 0x00 ∷ 0x01 ∷ []) (0x20 ∷ []) (0x21 ∷ []) day ≡ No confidentiality 3)
  -- flows-to: the see side goes the other way round, so only the change side refutes
  pub flows_see_side : Daily (λ day. flows_to plain (0x00 ∷ []) (0x30 ∷ 0x00 ∷ 0x01 ∷ []) (0x21 ∷ []) day ≡ No integrity 1)
  -- and so it does in what is visible: under a label that may see more the grant counts, under one that may see less it does not
  pub visible_see_side : Daily (λ day. acts_for side_labelled (0x00 ∷ []) (0x01 ∷ []) (0x30 ∷ 0x40 ∷ 0x30 ∷ 0x00 ∷ 0x01 ∷ 0x41 ∷ 0x01 ∷ []) day ≡ Yes)
  pub invisible_see_side : Daily (λ day. acts_for side_labelled (0x00 ∷ []) (0x01 ∷ []) (0x41 ∷ 0x01 ∷ []) day ≡ No confidentiality 1)
  -- the gap is asked on the see side too
  pub gap_see_side : Daily (λ day. acts_for side_spoken (0x00 ∷ []) (0x40 ∷ 0x01 ∷ []) (0x21 ∷ []) day ≡ No confidentiality 1)
  -- an either across two sides is held where one of them is
  pub either_across : Daily (λ day. acts_for plain (0x21 ∷ []) (0x31 ∷ 0x40 ∷ 0x00 ∷ 0x41 ∷ 0x01 ∷ []) (0x21 ∷ []) day ≡ Yes)

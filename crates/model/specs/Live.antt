-- Document 02, K5, "The live ledger": what it keeps, its calls, and what each call does. Assumes nothing: these are definitions.
use Rattle.std.specs.Prelude.{ℕ, zero, suc, ◌+◌, ◌-◌, ◌≤◌, ◌≡◌, true, ◌&&◌, List, [], ◌∷◌, ◌++◌, eqb, ltb, length, take, drop}
use Rattle.model.specs.Sides.{Side}
use Rattle.model.specs.Readings.{Reading, accepted, refused, and_then, from, require}
use Rattle.model.specs.Coalitions.{Marks, bit}
use Rattle.model.specs.Terms.{Term, job_size, read_term, held}
use Rattle.model.specs.Dates.{real_date}
use Rattle.model.specs.Grants.{Grant, Under, read_under, marks_of, breaks, counts_under, counting}
use Rattle.model.specs.Ledgers.{read_block, ledger_of}
use Rattle.model.specs.Answers.{Answer, Yes, Refused, given}
use Rattle.model.specs.Questions.{judge, answer_to, across}

-- For each side and coalition a number.
abbrev pub Numbers : Type 0
Numbers = Side → ℕ → ℕ

-- A live ledger: the label that it was made with, as bytes, and what it is asked under; the blocks of its grants, with what they are read as; the stored
-- numbers.
pub record Live : Type 0 where
  pub label : List ℕ
  pub asked : Under
  pub blocks : List (List ℕ)
  pub grants : List Grant
  pub numbers : Numbers

-- ---- the numbers, worked out afresh

-- how many of these grants the coalition breaks on the side
unfoldable pub broken_count : List Grant → Numbers
broken_count [] s c = 0
broken_count (g ∷ gs) s c = bit (breaks (marks_of g) s c) + broken_count gs s c

-- and of those that count
unfoldable pub afresh : Under → List Grant → Numbers
afresh u gs = broken_count (counting u gs)

-- ---- the calls that alter it

-- n, a label and a day: 86, 7, then 41 to 44; no grants, and every number is 0
unfoldable pub make : ℕ → List ℕ → ℕ → Reading Live
make n label day =
    require (real_date day) 86
    (require (job_size n) 7
    (and_then (read_under n label day)
    (λ u. accepted (record { label = label; asked = u; blocks = []; grants = []; numbers = λ s c. 0 }))))

-- the grant counts, and the coalition breaks it on the side
unfoldable pub breaks_counting : Under → Grant → Marks
breaks_counting u g s c = counts_under u g && breaks (marks_of g) s c

-- one grant more, last: 1 more at each coalition that breaks it, if it counts
abbrev pub grown : Live → List ℕ → Grant → Live
grown x block g = record {
  label = x.label;
  asked = x.asked;
  blocks = x.blocks ++ block ∷ [];
  grants = x.grants ++ g ∷ [];
  numbers = λ s c. x.numbers s c + bit (breaks_counting x.asked g s c);
}

-- adding a block: the block's refusals, then 87 where 64 grants are held
unfoldable pub added : Live → List ℕ → Reading Live
added x block =
    and_then (read_block x.asked.names block)
    (λ g. require (ltb (length x.blocks) 64) 87
    (accepted (grown x block g)))

-- without the one at a place: the later ones move down
abbrev pub dropped_at : {A : Type 0} → ℕ → List A → List A
dropped_at k l = take k l ++ drop (suc k) l

-- grant k, or 88 where there is none
unfoldable pub grant_at : List Grant → ℕ → Reading Grant
grant_at [] k = refused 88
grant_at (g ∷ gs) zero = accepted g
grant_at (g ∷ gs) (suc k) = grant_at gs k

-- one grant less: 1 less at each coalition that breaks it, if it counts
abbrev pub shrunk : Live → ℕ → Grant → Live
shrunk x k g = record {
  label = x.label;
  asked = x.asked;
  blocks = dropped_at k x.blocks;
  grants = dropped_at k x.grants;
  numbers = λ s c. x.numbers s c - bit (breaks_counting x.asked g s c);
}

unfoldable pub withdrawn : Live → ℕ → Reading Live
withdrawn x k = and_then (grant_at x.grants k) (λ g. accepted (shrunk x k g))

-- ---- questions, which alter nothing

-- sound is number 0
abbrev pub sound_by : Numbers → Marks
sound_by numbers s c = eqb (numbers s c) 0

unfoldable pub acts_for_live : Live → Term → Term → Answer
acts_for_live x p q = answer_to (judge x.asked.names (sound_by x.numbers) (held p) (held q))

-- on the see side the other way round
unfoldable pub flows_to_live : Live → Term → Term → Answer
flows_to_live x p q = answer_to (judge x.asked.names (sound_by x.numbers) (across q p) (across p q))

-- the refusals of p, 21 to 24, and of q, 31 to 34, and no other
unfoldable pub ask_live : (Live → Term → Term → Answer) → Live → List ℕ → List ℕ → Answer
ask_live answer x p q =
    given (from 20 (read_term x.asked.names p))
    (λ tp. given (from 30 (read_term x.asked.names q))
    (λ tq. answer x tp tq))

-- ---- lists of calls

pub data Call : Type 0 where
  add : List ℕ → Call
  withdraw : ℕ → Call
  ask_acts_for : List ℕ → List ℕ → Call
  ask_flows_to : List ℕ → List ℕ → Call

-- The live ledger after a call, and the reply.
pub record Step : Type 0 where
  pub next : Live
  pub reply : Answer

-- a refused call leaves it as it was
abbrev pub altered : Live → Reading Live → Step
altered x (accepted y) = record { next = y; reply = Yes }
altered x (refused r) = record { next = x; reply = Refused r }

unfoldable pub step : Call → Live → Step
step (add block) x = altered x (added x block)
step (withdraw k) x = altered x (withdrawn x k)
step (ask_acts_for p q) x = record { next = x; reply = ask_live acts_for_live x p q }
step (ask_flows_to p q) x = record { next = x; reply = ask_live flows_to_live x p q }

-- after a list of calls
unfoldable pub run : List Call → Live → Live
run [] x = x
run (call ∷ calls) x = run calls (step call x).next

-- ---- what it holds

-- the written ledger with the same grants
abbrev pub written : Live → List ℕ
written x = ledger_of x.asked.names x.blocks

-- each block is accepted, as this grant
pub data Holding (n : ℕ) : List (List ℕ) → List Grant → Type 0 where
  none : Holding n [] []
  some : {b : List ℕ} {g : Grant} {bs : List (List ℕ)} {gs : List Grant} → read_block n b ≡ accepted g → Holding n bs gs → Holding n (b ∷ bs) (g ∷ gs)

-- What is true of every live ledger that calls lead to: the stored numbers are those worked out afresh, and the rest is as the calls accepted it.
pub record Good (x : Live) : Type 0 where
  pub names_fit : job_size x.asked.names ≡ true
  pub label_read : read_term x.asked.names x.label ≡ accepted x.asked.label
  pub day_real : real_date x.asked.day ≡ true
  pub blocks_read : Holding x.asked.names x.blocks x.grants
  pub few : length x.blocks ≤ 64
  pub true_numbers : (s : Side) (c : ℕ) → x.numbers s c ≡ afresh x.asked x.grants s c

-- Document 02, K5: the live ledger. What holds after every list of calls, and what each call does. Assumes nothing: these are the statements.
use Rattle.std.specs.Prelude.{◌≡◌, ◌↔◌, ℕ, suc, ◌+◌, ◌*◌, ◌≤◌, ◌<◌, true, List, [], ◌∷◌, ◌++◌, length, get_or}
use Rattle.model.specs.Sides.{Side}
use Rattle.model.specs.Readings.{accepted, refused}
use Rattle.model.specs.Coalitions.{bit}
use Rattle.model.specs.Grants.{Grant, Under, read_under}
use Rattle.model.specs.Ledgers.{read_block, Ledger, read_ledger, ledger_of}
use Rattle.model.specs.Answers.{Refused}
use Rattle.model.specs.Questions.{sound_under, acts_for, flows_to}
use Rattle.model.specs.Live.{Live, afresh, make, breaks_counting, added, grant_at, withdrawn, Call, add, withdraw, ask_acts_for, ask_flows_to, step, run}
use Rattle.model.specs.Meanings.{MakeRefused, BlockRefused, AddRefused, AskRefused}
use Rattle.demands.specs.Numbers.{◌to◌, OneOf}

-- of every live ledger made with n, a label and a day, after every list of calls
abbrev pub AfterEveryList : (ℕ → List ℕ → ℕ → Live → Type 0) → Type 0
AfterEveryList P = (n : ℕ) (label : List ℕ) (day : ℕ) (new : Live) (calls : List Call) → make n label day ≡ accepted new → P n label day (run calls new)

-- What its blocks, written as a ledger, are read as, and its label on its day.
pub record Written (n : ℕ) (label : List ℕ) (day : ℕ) (x : Live) : Type 0 where
  pub ledger : Ledger
  pub asked : Under
  pub ledger_is : read_ledger (ledger_of n x.blocks) ≡ accepted ledger
  pub label_is : read_under n label day ≡ accepted asked

-- The stored numbers are those worked out afresh from what the written ledger is read as.
pub record NumbersOf (n : ℕ) (label : List ℕ) (day : ℕ) (x : Live) : Type 0 where
  pub is_written : Written n label day x
  pub numbers : (s : Side) (c : ℕ) → x.numbers s c ≡ afresh is_written.asked is_written.ledger.grants s c

abbrev pub StoredAreAfresh : Type 0
StoredAreAfresh = AfterEveryList NumbersOf

-- A number is 0 exactly if the coalition is sound there.
pub record SoundOf (n : ℕ) (label : List ℕ) (day : ℕ) (x : Live) : Type 0 where
  pub is_written : Written n label day x
  pub is_sound : (s : Side) (c : ℕ) → x.numbers s c ≡ 0 ↔ sound_under is_written.ledger is_written.asked s c ≡ true

abbrev pub SoundIsNumber0 : Type 0
SoundIsNumber0 = AfterEveryList SoundOf

-- The answers are those of the written ledger, for all p and q, their refusals included.
pub record AnswersOf (n : ℕ) (label : List ℕ) (day : ℕ) (x : Live) : Type 0 where
  pub by_acts_for : (p q : List ℕ) → (step (ask_acts_for p q) x).reply ≡ acts_for (ledger_of n x.blocks) p q label day
  pub by_flows_to : (p q : List ℕ) → (step (ask_flows_to p q) x).reply ≡ flows_to (ledger_of n x.blocks) p q label day

abbrev pub AnswersAreWritten : Type 0
AnswersAreWritten = AfterEveryList AnswersOf

-- n, label and day are those that it was made with.
pub record MadeWith (n : ℕ) (label : List ℕ) (day : ℕ) (x : Live) : Type 0 where
  pub same_names : x.asked.names ≡ n
  pub same_label : x.label ≡ label
  pub same_under : read_under n label day ≡ accepted x.asked
  pub same_day : x.asked.day ≡ day

abbrev pub StayAsMade : Type 0
StayAsMade = AfterEveryList MadeWith

-- Every number is at most that of the grants held, and these are at most 64.
pub record Bounded (n : ℕ) (label : List ℕ) (day : ℕ) (x : Live) : Type 0 where
  pub number_most : (s : Side) (c : ℕ) → x.numbers s c ≤ length x.grants
  pub one_block_each : length x.blocks ≡ length x.grants
  pub grants_most : length x.grants ≤ 64

abbrev pub AtMostTheGrants : Type 0
AtMostTheGrants = AfterEveryList Bounded

-- ---- what each call does

-- A refused call changes nothing, and neither does a question.
pub record RefusedChangesNothing : Type 0 where
  pub refused_call : (call : Call) (x : Live) (r : ℕ) → (step call x).reply ≡ Refused r → (step call x).next ≡ x
  pub by_acts_for : (p q : List ℕ) (x : Live) → (step (ask_acts_for p q) x).next ≡ x
  pub by_flows_to : (p q : List ℕ) (x : Live) → (step (ask_flows_to p q) x).next ≡ x

-- A grant is added after the last one; where one is withdrawn, the later ones move down.
pub record OrderKept : Type 0 where
  pub last : (x : Live) (block : List ℕ) (y : Live) → added x block ≡ accepted y → y.blocks ≡ x.blocks ++ block ∷ []
  pub earlier : (x : Live) (k : ℕ) (y : Live) → withdrawn x k ≡ accepted y → (j : ℕ) → j < k → get_or y.blocks j [] ≡ get_or x.blocks j []
  pub later : (x : Live) (k : ℕ) (y : Live) → withdrawn x k ≡ accepted y → (j : ℕ) → k ≤ j → get_or y.blocks j [] ≡ get_or x.blocks (suc j) []

-- A block that is added twice counts twice, and once when either is withdrawn.
pub record Twins (x z : Live) (g : Grant) : Type 0 where
  pub counted_twice : (s : Side) (c : ℕ) → z.numbers s c ≡ x.numbers s c + 2 * bit (breaks_counting x.asked g s c)
  pub counted_once : (k : ℕ) (w : Live) → grant_at z.grants k ≡ accepted g → withdrawn z k ≡ accepted w → (s : Side) (c : ℕ) → w.numbers s c ≡ x.numbers s c + bit (breaks_counting x.asked g s c)

abbrev pub TwinsCountEach : Type 0
TwinsCountEach = (x : Live) (block : List ℕ) (y z : Live) (g : Grant) → read_block x.asked.names block ≡ accepted g → added x block ≡ accepted y → added y block ≡ accepted z → Twins x z g

-- Withdrawing the grant that was added last gives back what was before.
pub record GivenBack (x y : Live) : Type 0 where
  pub back : Live
  pub is_withdrawn : withdrawn y (length x.grants) ≡ accepted back
  pub same_blocks : back.blocks ≡ x.blocks
  pub same_grants : back.grants ≡ x.grants
  pub same_numbers : (s : Side) (c : ℕ) → back.numbers s c ≡ x.numbers s c

abbrev pub AddingIsUndone : Type 0
AddingIsUndone = AfterEveryList (λ n label day x. (block : List ℕ) (y : Live) → added x block ≡ accepted y → GivenBack x y)

-- ---- refusals

-- Each call is refused exactly under its conditions, the first that applies, and by no other number.
pub record RefusedInOrder : Type 0 where
  pub new : (n : ℕ) (label : List ℕ) (day r : ℕ) → make n label day ≡ refused r ↔ MakeRefused n label day r
  pub block : (n : ℕ) (block : List ℕ) (r : ℕ) → read_block n block ≡ refused r ↔ BlockRefused n block r
  pub adding : (block : List ℕ) (x : Live) (r : ℕ) → (step (add block) x).reply ≡ Refused r ↔ AddRefused x block r
  pub withdrawing : (k : ℕ) (x : Live) (r : ℕ) → (step (withdraw k) x).reply ≡ Refused r ↔ ((r ≡ 88) × (length x.grants ≤ k))
  pub by_acts_for : (p q : List ℕ) (x : Live) (r : ℕ) → (step (ask_acts_for p q) x).reply ≡ Refused r ↔ AskRefused x.asked.names p q r
  pub by_flows_to : (p q : List ℕ) (x : Live) (r : ℕ) → (step (ask_flows_to p q) x).reply ≡ Refused r ↔ AskRefused x.asked.names p q r

-- the numbers of each call's refusals
pub record RefusalNumbers : Type 0 where
  pub new : (n : ℕ) (label : List ℕ) (day r : ℕ) → MakeRefused n label day r → OneOf (86 to 86 ∷ 7 to 7 ∷ 41 to 44 ∷ []) r
  pub adding : (block : List ℕ) (x : Live) (r : ℕ) → AddRefused x block r → OneOf (10 to 11 ∷ 13 to 14 ∷ 84 to 85 ∷ 87 to 87 ∷ []) r
  pub asking : (n : ℕ) (p q : List ℕ) (r : ℕ) → AskRefused n p q r → OneOf (21 to 24 ∷ 31 to 34 ∷ []) r

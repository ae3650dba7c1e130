-- How the numbers of a live ledger are stored (document 02, K5). Assumes nothing: these are definitions.
use Rattle.std.specs.Prelude.{◌≡◌, false, cond, List, ℕ, ◌+◌, ◌^◌, ◌<◌, ltb}
use denote.Ref.{MutBor}
use Rattle.model.specs.Sides.{Side, confidentiality, integrity}
use Rattle.model.specs.Coalitions.{Marks, mark, bit}
use Rattle.model.specs.Live.{Numbers, sound_by}
use Rattle.model.specs.Grants.{Under, under}
use Rattle.words.specs.FourWords.{RowAt}
use Rattle.words.specs.AnyBytes.{term_in}
use Rattle.words.specs.Evaluation.{job_of}
use Rattle.counting.specs.declared.Asked.{Asked}
use Rattle.planes.specs.Digits.{Digits, Elsewhere}
use Rattle.words.specs.declared.Row.{Row}

-- the row of numbers of a row of coalitions: those of the see side come first
abbrev pub row_of : Side → ℕ → ℕ
row_of confidentiality g = g
row_of integrity g = 16 + g

-- the numbers of the coalitions of n names, and 0 for all others
abbrev pub of_job : ℕ → Numbers → Numbers
of_job n f s c = cond (ltb c (2 ^ n)) (f s c) 0

-- All 896 words: the digits of the numbers of a job of n names.
pub record Stored (n : ℕ) (planes : List ℕ) (f : Numbers) : Type 0 where
  pub row : (s : Side) (g : ℕ) → g < 16 → Digits planes (row_of s g) g (of_job n f s)

-- 1 more at each that is marked
abbrev pub more : Numbers → Marks → Numbers
more f m s c = f s c + bit (m s c)

-- no number is too large for its digits
abbrev pub Small : Numbers → Type 0
Small f = (s : Side) (c : ℕ) → f s c < 128

-- What a step does to a row of numbers: f become h, and differ at none but those of the coalitions that m marks.
pub record Steps (of : MutBor (List ℕ) → ℕ → Row → MutBor (List ℕ) → Type 0) (n : ℕ) (m : Marks) (f h : Numbers) : Type 0 where
  pub number : (s : Side) (row g : ℕ) (marked : Row) (x y : MutBor (List ℕ)) → of x row marked y → RowAt (mark n (m s)) g marked → Digits x.now row g (of_job n f s) → Digits y.now row g (of_job n h s)
  pub others : (row : ℕ) (marked : Row) (x y : MutBor (List ℕ)) → of x row marked y → Elsewhere x.now row y.now
  pub still : (s : Side) (c : ℕ) → m s c ≡ false → f s c ≡ h s c

-- S are the coalitions whose number is 0, of the numbers that are stored
pub record SoundStored (planes : List ℕ) (S : Marks) : Type 0 where
  pub names : ℕ
  pub numbers : Numbers
  pub stored : Stored names planes numbers
  pub small : Small numbers
  pub is : (s : Side) (c : ℕ) → S s c ≡ sound_by (of_job names numbers) s c

-- the label and the day that a ledger is asked under
abbrev pub under_asked : Asked → Under
under_asked a = under (job_of a.sizes.names) (term_in a.label.now) a.day

-- The search for the first coalition that refutes, row by row (document 01: "the see side first, then the lowest number that refutes").
-- Assumes nothing: these are definitions.
use Rattle.std.specs.Prelude.{◌≡◌, false, not, ◌&&◌, ℕ, ◌+◌, ◌*◌, ◌%◌, ◌^◌, ltb, Option, Some, None}
use Rattle.model.specs.Questions as model
use Rattle.model.specs.Sides.{confidentiality, integrity}
use Rattle.model.specs.Coalitions.{member, Marks, Lowest, nowhere, at, lowest, mark}
use Rattle.model.specs.Terms.{Term, held}
use Rattle.model.specs.Questions.{refutes, ground, judge, across}
use Rattle.words.specs.declared.Row.{Row}
use Rattle.words.specs.declared.Rows.{Rows}
use Rattle.words.specs.FourWords.{side_of, RowsAt, same_row}
use Rattle.words.specs.Evaluation.{job_of}
use Rattle.questions.specs.declared.Relation.{Relation}
use Rattle.questions.specs.declared.Relation.TheVariants.{ActsFor, FlowsTo}
use Rattle.questions.specs.declared.Refuter.{Refuter}

-- what the first refuter, or that there is none, stands for
abbrev pub verdict_of : Option Refuter → model.Verdict
verdict_of None = model.holds
verdict_of (Some r) = model.refuted (side_of r.side) r.coalition

-- what a search for the lowest coalition gives
abbrev pub found_at : Option ℕ → Lowest
found_at None = nowhere
found_at (Some j) = at j

-- a coalition that refutes is one of the first and none of the second
abbrev pub from_of : Relation → Term → Term → Marks
from_of ActsFor p q = held p
from_of FlowsTo p q = across q p

abbrev pub to_of : Relation → Term → Term → Marks
to_of ActsFor p q = held q
to_of FlowsTo p q = across p q

-- what is judged, S being the sound coalitions
abbrev pub judge_of : Relation → ℕ → Marks → Term → Term → model.Verdict
judge_of relation n S p q = judge n S (from_of relation p q) (to_of relation p q)

-- of the coalitions of n names, those that refute if they are sound
abbrev pub opposed_of : Relation → ℕ → Term → Term → Marks
opposed_of relation n p q s c = ltb c (2 ^ n) && (from_of relation p q s c && not (to_of relation p q s c))

-- of the coalitions of a job of n names, those that refute
abbrev pub refuters_of : Relation → ℕ → Marks → Term → Term → Marks
refuters_of relation n S p q s = mark (job_of n) (refutes S (from_of relation p q) (to_of relation p q) s)

-- the number of the lowest bit of a word that is set
abbrev pub lowest_bit : ℕ → Lowest
lowest_bit x = lowest (λ j. member j x) 64

-- the first, or where there is none the second
abbrev pub first_of : Lowest → Lowest → Lowest
first_of (at j) b = at j
first_of nowhere b = b

-- a number that is counted from i on
abbrev pub raised : ℕ → Lowest → Lowest
raised i nowhere = nowhere
raised i (at j) = at (i + j)

-- the number of the lowest coalition of a row, counted from the row's first
abbrev pub lowest_in : Row → Lowest
lowest_in x = first_of (lowest_bit x.a) (first_of (raised 64 (lowest_bit x.b)) (first_of (raised 128 (lowest_bit x.c)) (raised 192 (lowest_bit x.d))))

-- the coalition with such a number in row g; there are 16 rows at most
abbrev pub placed : ℕ → Lowest → Lowest
placed g = raised (256 * (g % 16))

-- the see side alone
abbrev pub see_only : Marks → Marks
see_only f confidentiality = f confidentiality
see_only f integrity = λ c. false

-- those that can still decide
abbrev pub still_of : Option Refuter → Marks → Marks
still_of None f = f
still_of (Some r) f = see_only f

-- and of two rows those that can
abbrev pub still_rows : Option Refuter → Rows → Rows
still_rows None both = both
still_rows (Some r) both = record { see = both.see; change = same_row 0 }

-- what was found, or the first in row g, these being its lowest refuters: one on the see side comes before what was found
abbrev pub later_of : Lowest → Lowest → model.Verdict → model.Verdict
later_of (at c) change found = model.refuted confidentiality c
later_of nowhere (at c) found = model.refuted integrity c
later_of nowhere nowhere found = found

abbrev pub further_of : Option Refuter → ℕ → Lowest → Lowest → model.Verdict
further_of found g see change = later_of (placed g see) (placed g change) (verdict_of found)

-- the first of the refuters R below k
abbrev pub found_to : Marks → ℕ → model.Verdict
found_to R k = ground (lowest (R confidentiality) k) (lowest (R integrity) k)

-- Before row g the first of the refuters R is the verdict, and none is on the see side; of row g, these are the refuters that can still decide.
pub record Deciding (R : Marks) (found : Option Refuter) (g : ℕ) (left : Rows) : Type 0 where
  pub clear : lowest (R confidentiality) (256 * g) ≡ nowhere
  pub so_far : verdict_of found ≡ found_to R (256 * g)
  pub rows : RowsAt (still_of found R) g left

-- Rows of the coalitions that refute if they are sound, and what is judged where the bytes are accepted. Assumes nothing.
use mathlib.Core.Path.{◌≡◌, refl, sym, ap, ◌∙◌}
use native.Mathlib.Omega.{arith}
use Rattle.std.specs.Prelude.{Option, Some, None}
use Rattle.std.specs.Option.{is_some}
use mathlib.Core.Bool.{Bool, true, false, not, ◌&&◌}
use mathlib.Core.Logic.{◌↔◌}
use Prim.Native.Nat.{ℕ, ◌^◌, ◌%◌, ◌<◌}
use lib.Bits.{bit_and}
use lib.Dec.{ltb}
use Rattle.model.specs.Sides.{Side, confidentiality, integrity}
use Rattle.model.specs.Coalitions.{Marks, mark}
use Rattle.model.specs.Terms.{Term, held}
use Rattle.model.specs.Grants.{Under, acts_statically}
use Rattle.model.specs.Ledgers.{Ledger}
use Rattle.model.specs.Questions.{refutes, holds, refuted, judge, answer_to, across, sound_under, acts_for_under, flows_to_under}
use Rattle.model.proofs.Truth.{false_of}
use Rattle.model.proofs.Judge.{judge_yes, judge_cong}
use Rattle.model.proofs.Sound.{static_says}
use Rattle.words.specs.declared.Row.{Row}
use Rattle.words.specs.declared.Rows.{Rows}
use Rattle.words.specs.FourWords.{side_of, RowAt, RowsAt, each_word, lacks, lacks_word}
use Rattle.words.specs.Evaluation.{job_of, row_count}
use Rattle.words.proofs.FourWords.{row_both, row_lacks, rows_of}
use Rattle.words.proofs.Names.{few_coalitions}
use Rattle.tables.specs.declared.Table.{Table}
use Rattle.tables.specs.Filling.{rows_of as table_rows}
use Rattle.tables.proofs.Reading.{row_read}
use Rattle.questions.specs.declared.Relation.{Relation}
use Rattle.questions.specs.declared.Relation.TheVariants.{ActsFor, FlowsTo}
use Rattle.questions.specs.Answers.{relation_of}
use Rattle.questions.specs.declared.Refuter.{Refuter}
use Rattle.questions.specs.Searching.{verdict_of, from_of, to_of, judge_of, opposed_of, refuters_of}

-- the rows of those that refute if they are sound, from the rows of p and q
module _ (n : ℕ) (p q : Term) (g : ℕ) (mask : Row) (from to : Rows) (m : RowAt (λ c. ltb c (2 ^ n)) g mask) (a : RowsAt (held p) g from) (b : RowsAt (held q) g to) where
  -- of the coalitions of n names, those of the first and not of the second
  opposed_row : (f h : ℕ → Bool) (x y r : Row) → RowAt f g x → RowAt h g y → r ≡ each_word bit_and mask (each_word lacks_word x y) → RowAt (λ c. ltb c (2 ^ n) && lacks f h c) g r
  opposed_row f h x y r c d e = rw e (row_both g _ _ _ _ m (row_lacks g f h x y c d))

  module _ (see change : Row) (e : change ≡ each_word bit_and mask (each_word lacks_word from.change to.change)) where
    pub acts_rows : see ≡ each_word bit_and mask (each_word lacks_word from.see to.see) → RowsAt (opposed_of ActsFor n p q) g (record { see = see; change = change })
    acts_rows d = rows_of g (opposed_of ActsFor n p q) see change (opposed_row _ _ _ _ see (a.row confidentiality) (b.row confidentiality) d) (opposed_row _ _ _ _ change (a.row integrity) (b.row integrity) e)

    -- on the see side the other way round
    pub flows_rows : see ≡ each_word bit_and mask (each_word lacks_word to.see from.see) → RowsAt (opposed_of FlowsTo n p q) g (record { see = see; change = change })
    unfolding across
    flows_rows d = rows_of g (opposed_of FlowsTo n p q) see change (opposed_row _ _ _ _ see (b.row confidentiality) (a.row confidentiality) d) (opposed_row _ _ _ _ change (a.row integrity) (b.row integrity) e)

-- from the tables of p and q, a row below those that n names have
pub opposed_here : (relation : Relation) (n : ℕ) (p q : Term) (g : ℕ) (p_rows q_rows : Table) (from to r : Rows) → g < row_count n
    → ((g : ℕ) → g < row_count n → RowsAt (held p) g (table_rows p_rows g)) → ((g : ℕ) → g < row_count n → RowsAt (held q) g (table_rows q_rows g))
    → from ≡ table_rows p_rows (g % 16) → to ≡ table_rows q_rows (g % 16)
    → ((p q : Term) → RowsAt (held p) g from → RowsAt (held q) g to → RowsAt (opposed_of relation n p q) g r) → RowsAt (opposed_of relation n p q) g r
opposed_here relation n p q g p_rows q_rows from to r l a b d e h = h p q (row_read (held p) n g p_rows from l a d) (row_read (held q) n g q_rows to l b e)

-- in the rows that a job has, those that are opposed and sound refute
pub refuters_are : (relation : Relation) (n : ℕ) (S : Marks) (p q : Term) (s : Side) (c : ℕ) → c < 4096 → (opposed_of relation n p q s c && S s c) ≡ refuters_of relation n S p q s c
unfolding mark refutes
refuters_are relation n S p q s c h = rw (few_coalitions n c h) (turn (ltb c (2 ^ job_of n)) (from_of relation p q s c && not (to_of relation p q s c)) (S s c))
  where
    turn : (a b d : Bool) → ((a && b) && d) ≡ (a && (d && b))
    turn false b d = refl
    turn true false true = refl
    turn true false false = refl
    turn true true true = refl
    turn true true false = refl

-- what is judged of a ledger and a label: marks that agree are judged alike
pub judged_under : (relation : Relation) (n : ℕ) (l : Ledger) (u : Under) (p q : Term) (S : Marks) → n ≡ l.names → ((s : Side) (c : ℕ) → S s c ≡ sound_under l u s c)
    → answer_to (judge_of relation n S p q) ≡ relation_of relation l u p q
unfolding acts_for_under flows_to_under
judged_under ActsFor n l u p q S e h = ap answer_to (judge_cong n S (sound_under l u) (held p) (held q) (λ s c _. h s c)) ∙ rw e
judged_under FlowsTo n l u p q S e h = ap answer_to (judge_cong n S (sound_under l u) (across q p) (across p q) (λ s c _. h s c)) ∙ rw e

-- where every coalition is marked, what is judged of p and q is whether p acts for q statically
pub judged_static : (n : ℕ) (S : Marks) (p q : Term) → ((s : Side) (c : ℕ) → S s c ≡ true) → judge n S (held p) (held q) ≡ holds ↔ acts_statically n p q ≡ true
judged_static n S p q all = (
  λ e. (static_says n p q).1 (λ s c b. (judge_yes n S (held p) (held q)).0 e s c b (all s c)),
  λ e. (judge_yes n S (held p) (held q)).1 (λ s c b _. (static_says n p q).0 e s c b),
)

-- where none refutes it does, and otherwise not
pub static_none : (n : ℕ) (p q : Term) (found : Option Refuter) (b : Bool) → is_some found ≡ not b → verdict_of found ≡ judge n (λ s c. true) (held p) (held q) → b ≡ acts_statically n p q
static_none n p q None true e h = sym ((judged_static n (λ s c. true) p q (λ s c. refl)).0 (sym h))
static_none n p q None false e h = cc
static_none n p q (Some r) true e h = cc
static_none n p q (Some r) false e h = sym (false_of _ (λ e. not_both (side_of r.side) r.coalition (h ∙ (judged_static n (λ s c. true) p q (λ s c. refl)).1 e)))
  where
    not_both : (s : Side) (c : ℕ) → refuted s c ≡ holds → ⊥
    not_both s c e = absurd (let z : ◌≡◌ {A = ℕ} 0 1 = cc in omega arith)

-- A question on bytes: which refusal it gets, and the answer where nothing is refused. Assumes nothing.
use mathlib.Core.Path.{◌≡◌, refl}
use Rattle.std.specs.Prelude.{Option, Some, None, Ok}
use mathlib.Core.Bool.{true, false}
use mathlib.Core.List.{List}
use Prim.Native.Nat.{ℕ, ◌+◌}
use Rattle.model.specs.Readings.{accepted, refused}
use Rattle.model.specs.Terms.{Term, read_term}
use Rattle.model.specs.Dates.{real_date}
use Rattle.model.specs.Grants.{Under, under}
use Rattle.model.specs.Ledgers.{Ledger, read_ledger}
use Rattle.model.specs.Answers.{Answer, Refused}
use Rattle.model.specs.Questions.{answer_to, ask}
use Rattle.ledgers.specs.Readings.{LedgerOf}
use Rattle.words.specs.AnyBytes.{term_in}
use Rattle.words.specs.Evaluation.{job_of}
use Rattle.words.proofs.AnyBytes.{term_in_lem}
use Rattle.words.proofs.Names.{job_is}
use Rattle.counting.specs.Counted.{counted_in}
use Rattle.counting.proofs.Accepted.{names_few}
use Rattle.soundness.specs.Keeping.{sound_in}
use Rattle.soundness.proofs.Accepted.{sound-counted}
use Rattle.questions.specs.declared.Relation.{Relation}
use Rattle.questions.specs.declared.Refuter.{Refuter}
use Rattle.questions.specs.Answers.{answer_of, relation_of}
use Rattle.questions.specs.Searching.{verdict_of, judge_of}
use Rattle.questions.proofs.Refuting.{judged_under}

-- what is judged on bytes that are accepted is what the question answers
pub judged_asked : (relation : Relation) (ledger p q label : List ℕ) (day n grants : ℕ) (l : Ledger) (tp tq L : Term) → LedgerOf ledger n grants l
    → read_term n p ≡ accepted tp → read_term n q ≡ accepted tq → read_term n label ≡ accepted L
    → answer_to (judge_of relation (job_of n) (sound_in ledger grants (counted_in ledger n grants label day)) (term_in p) (term_in q)) ≡ relation_of relation l (under n L day) tp tq
judged_asked relation ledger p q label day n grants l tp tq L of a b c =
    rw (job_is n (names_few ledger n grants l of), term_in_lem n p tp a, term_in_lem n q tq b)
    (judged_under relation n l (under n L day) tp tq _ of.names (sound-counted ledger label day n grants (counted_in ledger n grants label day) l L of c refl))

-- the answer is what the first refuter, or that there is none, stands for
pub verdict_answers : (v : Option Refuter) → answer_of (Ok v) ≡ answer_to (verdict_of v)
verdict_answers None = refl
verdict_answers (Some r) = refl

-- ---- a question whose day is refused, or its ledger, p, q or label
pub ask_day : (answer : Ledger → Under → Term → Term → Answer) (ledger p q label : List ℕ) (day : ℕ) → real_date day ≡ false → Refused 86 ≡ ask answer ledger p q label day
unfolding ask
ask_day answer ledger p q label day e = rw e

module _ (answer : Ledger → Under → Term → Term → Answer) (ledger p q label : List ℕ) (day : ℕ) (real : real_date day ≡ true) where
  pub ask_ledger : (r : ℕ) → read_ledger ledger ≡ refused r → Refused r ≡ ask answer ledger p q label day
  unfolding ask
  ask_ledger r e = rw (real, e)

  module _ (l : Ledger) (n : ℕ) (read : read_ledger ledger ≡ accepted l) (names : l.names ≡ n) where
    pub ask_p : (r : ℕ) → read_term n p ≡ refused r → Refused (20 + r) ≡ ask answer ledger p q label day
    unfolding ask
    ask_p r e = rw (real, read, names, e)

    module _ (tp : Term) (p_read : read_term n p ≡ accepted tp) where
      pub ask_q : (r : ℕ) → read_term n q ≡ refused r → Refused (30 + r) ≡ ask answer ledger p q label day
      unfolding ask
      ask_q r e = rw (real, read, names, p_read, e)

      module _ (tq : Term) (q_read : read_term n q ≡ accepted tq) where
        pub ask_label : (r : ℕ) → read_term n label ≡ refused r → Refused (40 + r) ≡ ask answer ledger p q label day
        unfolding ask
        ask_label r e = rw (real, read, names, p_read, q_read, e)

        -- nothing is refused
        pub ask_answer : (L : Term) → read_term n label ≡ accepted L → answer l (under n L day) tp tq ≡ ask answer ledger p q label day
        unfolding ask
        ask_answer L e = rw (real, read, names, p_read, q_read, e)

-- Questions put to a live ledger: which refusal they get, and the answer by the numbers. Assumes nothing.
use mathlib.Core.Path.{◌≡◌, refl, ap, ◌∙◌, subst}
use mathlib.Core.List.{List}
use Prim.Native.Nat.{ℕ, ◌+◌}
use Rattle.model.specs.Readings.{accepted, refused}
use Rattle.model.specs.Terms.{Term, read_term}
use Rattle.model.specs.Answers.{Answer, Refused}
use Rattle.model.specs.Questions.{answer_to}
use Rattle.model.specs.Live as model_live
use Rattle.model.specs.Live.{sound_by, acts_for_live, flows_to_live, ask_live}
use Rattle.words.specs.AnyBytes.{term_in}
use Rattle.words.specs.Evaluation.{job_of}
use Rattle.words.proofs.AnyBytes.{term_in_lem}
use Rattle.questions.specs.declared.Relation.{Relation}
use Rattle.questions.specs.declared.Relation.TheVariants.{ActsFor, FlowsTo}
use Rattle.std.specs.Prelude.{Option}
use Rattle.questions.specs.declared.Refuter.{Refuter}
use Rattle.questions.specs.Searching.{verdict_of, judge_of}
use Rattle.live.specs.declared.Live.{Live}
use Rattle.live.specs.Held.{live_of, Holds}
use Rattle.live.proofs.Stepping.{job_live}

module _ (live : Live) (ledger planes : List ℕ) (x : model_live.Live) (h : Holds live ledger planes x) (p q : List ℕ) where
  pub ask_p : (answer : model_live.Live → Term → Term → Answer) (r : ℕ) → read_term live.names p ≡ refused r → Refused (20 + r) ≡ ask_live answer x p q
  unfolding ask_live
  ask_p answer r e = rw (← h.names, e)

  module _ (tp : Term) (p_read : read_term live.names p ≡ accepted tp) where
    pub ask_q : (answer : model_live.Live → Term → Term → Answer) (r : ℕ) → read_term live.names q ≡ refused r → Refused (30 + r) ≡ ask_live answer x p q
    unfolding ask_live
    ask_q answer r e = rw (← h.names, p_read, e)

    pub ask_answer : (relation : Relation) (v : Option Refuter) (tq : Term) → read_term live.names q ≡ accepted tq
        → verdict_of v ≡ judge_of relation (job_of live.names) (sound_by x.numbers) (term_in p) (term_in q) → answer_to (verdict_of v) ≡ ask_live (live_of relation) x p q
    unfolding ask_live acts_for_live flows_to_live
    ask_answer relation v tq q_read e =
        let judged : judge_of relation (job_of live.names) (sound_by x.numbers) (term_in p) (term_in q) ≡ judge_of relation x.asked.names (sound_by x.numbers) tp tq =
        rw (job_live live ledger planes x h, term_in_lem live.names p tp p_read, term_in_lem live.names q tq q_read) refl in
        let own_p : read_term x.asked.names p ≡ accepted tp = subst (λ (n : ℕ). read_term n p ≡ accepted tp) h.names p_read in
        let own_q : read_term x.asked.names q ≡ accepted tq = subst (λ (n : ℕ). read_term n q ≡ accepted tq) h.names q_read in
        ap answer_to (e ∙ judged) ∙ rw (own_p, own_q) (by relation)
      where
        by : (relation : Relation) → answer_to (judge_of relation x.asked.names (sound_by x.numbers) tp tq) ≡ live_of relation x tp tq
        by ActsFor = refl
        by FlowsTo = refl

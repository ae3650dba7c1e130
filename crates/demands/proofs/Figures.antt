-- The answers that each call can give, and their numbers. Assumes nothing.
use mathlib.Core.Path.{◌≡◌, refl}
use mathlib.Core.Logic.{inl, inr}
use Prim.Native.Nat.{ℕ, zero, suc, ◌+◌, ◌%◌, ◌≤◌, ◌<◌}
use mathlib.Core.Bool.{Bool, true, false, not, ◌&&◌, ◌||◌}
use mathlib.Core.List.{List, [], ◌∷◌, reverse}
use native.Mathlib.Omega.{arith}
use lib.Dec.{eqb, leb, ltb}
use lib.ListN.{length}
use lib.Pow.{pow_mono}
use borrow.Author.Tests.{leb-true}
use Rattle.model.specs.Sides.{confidentiality, integrity}
use Rattle.model.specs.Bytes.{byte}
use Rattle.model.specs.Readings.{Reading, accepted, refused, and_then, from, require, is_accepted}
use Rattle.model.specs.Coalitions.{Marks}
use Rattle.model.specs.Terms.{Term, job_size, read_term, held}
use Rattle.model.specs.Dates.{real_date}
use Rattle.model.specs.Grants.{Grant, read_under, counts_under, of_grant}
use Rattle.model.specs.Ledgers.{read_book, Ledger, read_ledger}
use Rattle.model.specs.Answers.{Answer, Yes, No, Written, Refused, RefusedAt, number, written_front}
use Rattle.model.specs.Questions.{answer_to, across, sound_under, acts_for_under, flows_to_under, ask, acts_for, flows_to}
use Rattle.model.specs.Extracts.{table, extract_of, written, extract}
use Rattle.model.specs.ShortForms.{short_form_of, shorten}
use Rattle.model.specs.Notation.{Back, ended, no_text, read_back, whole_text, text_length, text_codes, term_text, read_text, write_term}
use Rattle.model.specs.Derivations.{step_at, Rule, rule_of, uses_of, step_form, read_left, read_right, before, meets, check_step, on_step, check_steps, derivation_length, step_count, check_derivation}
use Rattle.model.proofs.Truth.{and_right, cond_case}
use Rattle.model.proofs.Judge.{judge_no, judge_case}
use Rattle.model.proofs.Accepted.{names_range}
use Rattle.model.proofs.Notation.{text_few, term_few}
use Rattle.sperner.proofs.Forms.{written_few}
use Rattle.demands.specs.Numbers.{Range, ◌to◌, OneOf, OnDay, question_refusals, extract_refusals, short_form_refusals, text_refusals, term_refusals, derivation_refusals, step_refusals, AnswersQuestion, AnswersExtract, AnswersFront, AnswersDerivation, QuestionsAnswered, ExtractsAnswered, ShortFormsAnswered, NotationAnswered, DerivationsAnswered, ComesBack, AnswersComeBack}
use Rattle.demands.proofs.Asking.{judged}
use Rattle.demands.proofs.Refusing.{Only, only-require, only_then, only_term, only_part, only_ledger, given_case, only_under, only_book}

-- ---- an answer whose parts are small comes back out of its number
abbrev Small : Answer → Type 0
Small Yes = Unit {0}
Small (No s c) = c < 4096
Small (Written k) = k < 65536
Small (Refused r) = r < 256
Small (RefusedAt k r) = (k < 256) × (r < 256)

comes_back : (answer : Answer) → Small answer → ComesBack answer
unfolding number
comes_back Yes h = (refl, refl)
comes_back (No confidentiality c) h = (omega arith, omega arith, omega arith)
comes_back (No integrity c) h = (omega arith, omega arith, omega arith)
comes_back (Written k) h = (omega arith, omega arith)
comes_back (Refused r) h = (omega arith, omega arith, omega arith)
comes_back (RefusedAt k r) h = (omega arith, omega arith, omega arith)

-- refusals of ranges that end below a number are below it
abbrev pub EndBelow : ℕ → List Range → Type 0
EndBelow most [] = Unit {0}
EndBelow most (a to b ∷ l) = (b < most) × EndBelow most l

one_below : (most : ℕ) (l : List Range) (r : ℕ) → EndBelow most l → OneOf l r → r < most
one_below most [] r e h = absurd h
one_below most (a to b ∷ l) r e (inl h) = omega arith
one_below most (a to b ∷ l) r e (inr h) = one_below most l r e.1 h

day_below : (l : List Range) (day r : ℕ) → EndBelow 256 l → OnDay l day r → r < 256
day_below l day r e (inl h) = one_below 256 l r e h.1
day_below l day r e (inr h) = omega (arith, h.1)

-- where they end below 86, that is given only on a day that is not real
day_86 : (l : List Range) (day : ℕ) → EndBelow 86 l → OnDay l day 86 → real_date day ≡ false
day_86 l day e (inl h) = absurd (omega (arith, one_below 86 l 86 e h.1))
day_86 l day e (inr h) = h.0

-- ---- questions
question_answered : (F G : Term → Term → Marks) (ledger p q label : List ℕ) (day : ℕ) → AnswersQuestion ledger day (ask (judged F G) ledger p q label day)
unfolding ask
question_answered F G ledger p q label day =
    cond_case (AnswersQuestion ledger day) (real_date day) _ _
    (λ real. given_case (AnswersQuestion ledger day) (read_ledger ledger) _ (only_ledger (OnDay question_refusals day) (λ r a b. inl (real, inl (a, b))) (λ r a b. inl (real, inr (inl (a, b)))) ledger)
    (λ l e. given_case (AnswersQuestion ledger day) (from 20 (read_term l.names p)) _ (only_part (OnDay question_refusals day) 20 l.names p (λ r a b. inl (real, inr (inr (inl (omega arith, omega arith))))))
    (λ tp _. given_case (AnswersQuestion ledger day) (from 30 (read_term l.names q)) _ (only_part (OnDay question_refusals day) 30 l.names q (λ r a b. inl (real, inr (inr (inr (inl (omega arith, omega arith)))))))
    (λ tq _. given_case (AnswersQuestion ledger day) (read_under l.names label day) _ (only_under (OnDay question_refusals day) l.names label day (λ r a b. inl (real, inr (inr (inr (inr (inl (omega arith, omega arith))))))))
    (λ u _. judge_case (λ v. AnswersQuestion ledger day (answer_to v)) l.names (sound_under l u) (F tp tq) (G tp tq) (λ _. tt)
    (λ s c k. record { job = l; is = e; below = ((judge_no l.names (sound_under l u) (F tp tq) (G tp tq) s c).0 k).below }))))))
    (λ unreal. inr (unreal, refl))

pub questions_answered : QuestionsAnswered
unfolding acts_for acts_for_under flows_to flows_to_under
questions_answered = record {
  by_acts_for = question_answered (λ p q. held p) (λ p q. held q);
  by_flows_to = question_answered (λ p q. across q p) (λ p q. across p q);
}

question_small : (ledger : List ℕ) (day : ℕ) (answer : Answer) → AnswersQuestion ledger day answer → Small answer
question_small ledger day Yes h = tt
question_small ledger day (No s c) h = omega (arith, h.below, pow_mono (names_range ledger h.job h.is).1)
question_small ledger day (Written k) h = absurd h
question_small ledger day (Refused r) h = day_below question_refusals day r (omega arith) h
question_small ledger day (RefusedAt k r) h = absurd h

-- ---- extracts
written_answered : (day : ℕ) (x : Reading (List ℕ)) (buffer : List ℕ) → Only (OnDay extract_refusals day) x → AnswersExtract day (written x buffer).answer
written_answered day (accepted bytes) buffer o = tt
written_answered day (refused r) buffer o = o

pub extracts_answered : ExtractsAnswered
unfolding extract extract_of
extracts_answered ledger label day buffer = written_answered day (extract_of ledger label day (length buffer)) buffer (on (real_date day) refl)
  where
    on : (b : Bool) → real_date day ≡ b
        → Only (OnDay extract_refusals day) (require b 86 (require (eqb (length buffer) 1024) 51 (and_then (read_book ledger label day) (λ b. accepted (table b.ledger.names (sound_under b.ledger b.asked))))))
    on true real =
        only-require (OnDay extract_refusals day) (eqb (length buffer) 1024) 51 _ (inl (real, inl (omega arith, omega arith)))
        (only_then (OnDay extract_refusals day) (read_book ledger label day) _
        (only_book (OnDay extract_refusals day) ledger label day (λ r a b. inl (real, inr (inl (a, b)))) (λ r a b. inl (real, inr (inr (inl (a, b))))) (λ r a b. inl (real, inr (inr (inr (inl (omega arith, omega arith)))))))
        (λ b. tt))
    on false unreal = inr (unreal, refl)

extract_small : (day : ℕ) (answer : Answer) → AnswersExtract day answer → Small answer
extract_small day Yes h = tt
extract_small day (No s c) h = absurd h
extract_small day (Written k) h = absurd h
extract_small day (Refused r) h = day_below extract_refusals day r (omega arith) h
extract_small day (RefusedAt k r) h = absurd h

-- ---- short forms, texts and terms
module _ (most : ℕ) (refusals : List Range) where
  front_answered : (x : Reading (List ℕ)) (buffer : List ℕ) → Only (OneOf refusals) x
      → ((k : ℕ) → (written_front x buffer).answer ≡ Written k → k ≤ most) → AnswersFront most refusals (written_front x buffer).answer
  front_answered (accepted bytes) buffer o h = h (length bytes) refl
  front_answered (refused r) buffer o h = o

  front_small : (answer : Answer) → most < 65536 → EndBelow 256 refusals → AnswersFront most refusals answer → Small answer
  front_small Yes few e h = absurd h
  front_small (No s c) few e h = absurd h
  front_small (Written k) few e h = omega arith
  front_small (Refused r) few e h = one_below 256 refusals r e h
  front_small (RefusedAt k r) few e h = absurd h

pub short_forms_answered : ShortFormsAnswered
unfolding shorten short_form_of
short_forms_answered n term buffer =
    front_answered _ short_form_refusals (short_form_of n term (length buffer)) buffer
    (only-require (OneOf short_form_refusals) (job_size n) 7 _ (inl (omega arith, omega arith))
    (only-require (OneOf short_form_refusals) (leb 3700 (length buffer)) 8 _ (inl (omega arith, omega arith))
    (only_then (OneOf short_form_refusals) (read_term n term) _ (only_term (OneOf short_form_refusals) n term (λ r a b. inr (inl (a, b)))) (λ t. tt))))
    (λ k e. omega (arith, written_few n term buffer k e))

text_only : (n : ℕ) (text : List ℕ) (size : ℕ) → Only (OneOf text_refusals) (text_codes n text size)
unfolding text_codes
text_only n text size =
    only-require (OneOf text_refusals) (job_size n) 7 _ (inl (omega arith, omega arith))
    (only-require (OneOf text_refusals) (text_length (length text) && eqb size 64) 81 _ (inr (inl (omega arith, omega arith)))
    (only_then (OneOf text_refusals) (whole_text (read_back n 2 (reverse text))) _ (only_whole (read_back n 2 (reverse text)))
    (λ cs. only-require (OneOf text_refusals) (leb (length cs) 64) 83 (accepted cs) (inr (inl (omega arith, omega arith))) tt)))
  where
    only_whole : (b : Back) → Only (OneOf text_refusals) (whole_text b)
    only_whole (ended w []) = tt
    only_whole (ended w (c ∷ left)) = inr (inl (omega arith, omega arith))
    only_whole no_text = inr (inl (omega arith, omega arith))

term_only : (n : ℕ) (term : List ℕ) (size : ℕ) → Only (OneOf term_refusals) (term_text n term size)
unfolding term_text
term_only n term size =
    only-require (OneOf term_refusals) (job_size n) 7 _ (inl (omega arith, omega arith))
    (only-require (OneOf term_refusals) (eqb size 256) 81 _ (inr (inl (omega arith, omega arith)))
    (only_then (OneOf term_refusals) (read_term n term) _ (only_term (OneOf term_refusals) n term (λ r a b. inr (inr (inl (a, b))))) (λ t. tt)))

pub notation_answered : NotationAnswered
unfolding read_text write_term
notation_answered = record {
  texts = λ n text buffer. front_answered _ text_refusals (text_codes n text (length buffer)) buffer (text_only n text (length buffer)) (λ k e. omega (arith, text_few n text buffer k e));
  terms = λ n term buffer. front_answered _ term_refusals (term_text n term (length buffer)) buffer (term_only n term (length buffer)) (λ k e. omega (arith, term_few n term buffer k e));
}

-- ---- derivations
step-only : (l : Ledger) (f : Grant → Bool) (d : List ℕ) (k : ℕ) (step : List ℕ) (r : Rule) → Only (OneOf step_refusals) (check_step l f d k step r)
unfolding check_step
step-only l f d k step r =
    only-require (OneOf step_refusals) (step_form r step) 61 _ (inl (omega arith, omega arith))
    (only-require (OneOf step_refusals) (is_accepted (read_left l.names step)) 62 _ (inl (omega arith, omega arith))
    (only-require (OneOf step_refusals) (is_accepted (read_right l.names step)) 63 _ (inl (omega arith, omega arith))
    (only-require (OneOf step_refusals) (before (uses_of r).first (byte 1 step) k && before (uses_of r).second (byte 2 step) k) 64 _ (inl (omega arith, omega arith))
    (only-require (OneOf step_refusals) (not (uses_of r).grant || ltb (byte 3 step) (length l.grants)) 65 _ (inl (omega arith, omega arith))
    (only-require (OneOf step_refusals) (not (uses_of r).grant || of_grant f l.grants (byte 3 step)) 66 _ (inl (omega arith, omega arith))
    (only-require (OneOf step_refusals) (meets l r step (step_at d (byte 1 step)) (step_at d (byte 2 step))) 67 (accepted tt) (inl (omega arith, omega arith)) tt))))))

on_step_answered : (d : List ℕ) (day k : ℕ) (x : Reading (Unit {0})) (next : Answer) → step_count d ≤ 64 → k < step_count d
    → Only (OneOf step_refusals) x → AnswersDerivation d day next → AnswersDerivation d day (on_step k x next)
on_step_answered d day k (accepted u) next few h o t = t
on_step_answered d day k (refused r) next few h o t = (few, h, o)

steps_answered : (l : Ledger) (f : Grant → Bool) (d : List ℕ) (day k count : ℕ) → step_count d ≤ 64 → k + count ≤ step_count d → AnswersDerivation d day (check_steps l f d k count)
unfolding check_steps
steps_answered l f d day k zero few h = tt
steps_answered l f d day k (suc count) few h =
    on_step_answered d day k (check_step l f d k (step_at d k) (rule_of (byte 0 (step_at d k)))) (check_steps l f d (suc k) count) few (omega arith)
    (step-only l f d k (step_at d k) (rule_of (byte 0 (step_at d k))))
    (steps_answered l f d day (suc k) count few (omega arith))

pub derivations_answered : DerivationsAnswered
unfolding check_derivation
derivations_answered d ledger label day =
    cond_case (AnswersDerivation d day) (real_date day) _ _
    (λ real. given_case (AnswersDerivation d day) (read_book ledger label day) _
    (only_book (OnDay derivation_refusals day) ledger label day (λ r a b. inl (real, inl (a, b))) (λ r a b. inl (real, inr (inl (a, b)))) (λ r a b. inl (real, inr (inr (inl (omega arith, omega arith))))))
    (λ b _. cond_case (AnswersDerivation d day) (derivation_length (length d)) (check_steps b.ledger (counts_under b.asked) d 0 (step_count d)) (Refused 60)
    (λ e. steps_answered b.ledger (counts_under b.asked) d day 0 (step_count d) (few e) (omega arith))
    (λ _. inl (real, inr (inr (inr (inl (omega arith, omega arith))))))))
    (λ unreal. inr (unreal, refl))
  where
    few : derivation_length (length d) ≡ true → step_count d ≤ 64
    few e = omega (arith, leb-true (length d) 8704 (and_right (leb 136 (length d)) _ (and_right (eqb (length d % 136) 0) _ e)))

derivation_small : (d : List ℕ) (day : ℕ) (answer : Answer) → AnswersDerivation d day answer → Small answer
derivation_small d day Yes h = tt
derivation_small d day (No s c) h = absurd h
derivation_small d day (Written k) h = absurd h
derivation_small d day (Refused r) h = day_below derivation_refusals day r (omega arith) h
derivation_small d day (RefusedAt k r) h = (omega arith, one_below 256 step_refusals r (omega arith) h.2)

pub answers_come_back : AnswersComeBack
answers_come_back = record {
  by_acts_for = λ ledger p q label day. let a = acts_for ledger p q label day in comes_back a (question_small ledger day a (questions_answered.by_acts_for ledger p q label day));
  by_flows_to = λ ledger p q label day. let a = flows_to ledger p q label day in comes_back a (question_small ledger day a (questions_answered.by_flows_to ledger p q label day));
  extracts = λ ledger label day buffer. let a = (extract ledger label day buffer).answer in comes_back a (extract_small day a (extracts_answered ledger label day buffer));
  short_forms = λ n term buffer. let a = (shorten n term buffer).answer in comes_back a (front_small 3700 short_form_refusals a (omega arith) (omega arith) (short_forms_answered n term buffer));
  texts = λ n text buffer. let a = (read_text n text buffer).answer in comes_back a (front_small 64 text_refusals a (omega arith) (omega arith) (notation_answered.texts n text buffer));
  terms = λ n term buffer. let a = (write_term n term buffer).answer in comes_back a (front_small 192 term_refusals a (omega arith) (omega arith) (notation_answered.terms n term buffer));
  derivations = λ d ledger label day. let a = check_derivation d ledger label day in comes_back a (derivation_small d day a (derivations_answered d ledger label day));
}

-- a call whose refusals on a real day are these gives 86 only on one that is not real
pub given_86 : (l : List Range) (day : ℕ) (P : Answer → Type 0) (answer : Answer) → EndBelow 86 l → (P (Refused 86) → OnDay l day 86) → P answer → answer ≡ Refused 86 → real_date day ≡ false
given_86 l day P answer below on h e = day_86 l day below (on (rw e at h))

-- A step's check, one test after another. Assumes nothing.
use Prim.Native.Nat.{ℕ, suc, ◌+◌, ◌-◌, ◌≤◌, ◌<◌}
use native.Mathlib.Nat.{sub-zero}
use native.Mathlib.Numerals.{add-one}
use native.Mathlib.Omega.{arith}
use mathlib.Core.Path.{◌≡◌, refl, sym, ◌∙◌}
use mathlib.Core.Bool.{Bool, true, false, cond, not, ◌&&◌, ◌||◌}
use mathlib.Core.List.{List, []}
use lib.Dec.{eqb, ltb}
use lib.ListN.{length, get_or}
use Rattle.std.specs.Prelude.{Result, Ok, Err}
use Rattle.std.specs.Result.{MatchResult, IsErrAnd}
use Rattle.std.specs.Simd.{first_chunks}
use Rattle.std.proofs.lemmas.Result.{err_from_is_err_and}
use Rattle.model.specs.Bytes.{byte}
use Rattle.model.specs.Coalitions.{member}
use Rattle.model.specs.Readings.{Reading, accepted, refused, and_then, require, refused_as, is_accepted}
use Rattle.model.specs.Terms.{Term}
use Rattle.model.specs.Dates.{real_date}
use Rattle.model.specs.Grants.{under, counts_under, Grant, of_grant}
use Rattle.model.specs.Ledgers.{read_book, Ledger, grant_block}
use Rattle.model.specs.Answers.{Answer, Yes, Refused as RefusedAnswer}
use Rattle.model.specs.Derivations.{step_at, Rule, no_rule, rule_of, uses_of, step_form, read_left, read_right, meets, check_step, on_step, check_steps, derivation_length, step_count, check_derivation, if_accepted, quote}
use Rattle.model.proofs.Blocks.{length-pieces, get_or-pieces}
use Rattle.model.proofs.Stands.{ledger_stands}
use Rattle.model.proofs.Prefixes.{bits_say}
use Rattle.refusals.specs.Results.{done}
use Rattle.ledgers.specs.declared.Sizes.{Sizes}
use Rattle.ledgers.proofs.Accepted.{AcceptedBook}
use Rattle.ledgers.proofs.Checks.{chunks}
use Rattle.counting.specs.Counted.{counted_in}
use Rattle.counting.proofs.Accepted.{counted_in_lem}
use Rattle.derivations.specs.declared.StepRefusal.{StepRefusal}
use Rattle.derivations.specs.declared.DerivationRefusal.{DerivationRefusal}
use Rattle.derivations.specs.declared.DerivationRefusal.TheVariants.{Step}
use Rattle.derivations.specs.Answers.{step_reading, refusal_of}
use Rattle.derivations.specs.Steps.{read_field, read_step, premises_before, grant_check, BookOf, Ready, check_at}

-- ---- a step by itself

-- a term was read, or not: `why` is the refusal then
told : (why : ℕ) (a : Reading Term) → done (refused_as why a) ≡ require (is_accepted a) why (accepted tt)
told why (accepted t) = refl
told why (refused r) = refl

module _ (n : ℕ) (step : List ℕ) where
  -- a byte that is no rule
  pub no_form : no_rule ≡ rule_of (byte 0 step) → refused 61 ≡ read_step n (rule_of (byte 0 step)) step
  unfolding read_step step_form
  no_form e = rw (← e)

  module _ (r : Rule) (is : r ≡ rule_of (byte 0 step)) where
    pub form_refused : step_form r step ≡ false → refused 61 ≡ read_step n (rule_of (byte 0 step)) step
    unfolding read_step
    form_refused e = rw (← is, e)

    module _ (form : step_form r step ≡ true) where
      pub left_refused : (k : ℕ) → refused k ≡ done (refused_as 62 (read_field 4 8 n step)) → refused k ≡ read_step n (rule_of (byte 0 step)) step
      unfolding read_step read_left read_field
      left_refused k e = rw (← is, form) (by (read_left n step) e)
        where
          by : (a : Reading Term) → refused k ≡ done (refused_as 62 a) → refused k ≡ require (is_accepted a) 62 (require (is_accepted (read_right n step)) 63 (accepted r))
          by (accepted t) f = cc
          by (refused j) f = let same : k ≡ 62 = cc in rw same

      pub right_refused : (k : ℕ) (u : Unit {0}) → accepted u ≡ done (refused_as 62 (read_field 4 8 n step)) → refused k ≡ done (refused_as 63 (read_field 5 72 n step))
          → refused k ≡ read_step n (rule_of (byte 0 step)) step
      unfolding read_step read_left read_right read_field
      right_refused k u p e = rw (← is, form) (by (read_left n step) (read_right n step) p e)
        where
          by : (a b : Reading Term) → accepted u ≡ done (refused_as 62 a) → refused k ≡ done (refused_as 63 b) → refused k ≡ require (is_accepted a) 62 (require (is_accepted b) 63 (accepted r))
          by (accepted t) (accepted s) f g = cc
          by (accepted t) (refused j) f g = let same : k ≡ 63 = cc in rw same
          by (refused i) b f g = cc

      pub step_read : (u v : Unit {0}) → accepted u ≡ done (refused_as 62 (read_field 4 8 n step)) → accepted v ≡ done (refused_as 63 (read_field 5 72 n step))
          → accepted r ≡ read_step n (rule_of (byte 0 step)) step
      unfolding read_step read_left read_right read_field
      step_read u v p q = rw (← is, form) (by (read_left n step) (read_right n step) p q)
        where
          by : (a b : Reading Term) → accepted u ≡ done (refused_as 62 a) → accepted v ≡ done (refused_as 63 b) → accepted r ≡ require (is_accepted a) 62 (require (is_accepted b) 63 (accepted r))
          by (accepted t) (accepted s) f g = refl
          by (accepted t) (refused j) f g = cc
          by (refused i) b f g = cc

-- what a rule that was read tells of the step
record StepRead (n : ℕ) (r : Rule) (step : List ℕ) : Type 0 where
  left_read : is_accepted (read_left n step) ≡ true
  right_read : is_accepted (read_right n step) ≡ true

read_told : (n : ℕ) (r s : Rule) (step : List ℕ) → accepted r ≡ read_step n s step → StepRead n r step
unfolding read_step
read_told n r s step e = by (step_form s step) (is_accepted (read_left n step)) (is_accepted (read_right n step)) refl refl e
  where
    by : (form p q : Bool) → is_accepted (read_left n step) ≡ p → is_accepted (read_right n step) ≡ q → accepted r ≡ require form 61 (require p 62 (require q 63 (accepted s))) → StepRead n r step
    by true true true f g h = record { left_read = f; right_read = g }
    by true true false f g h = cc
    by true false q f g h = cc
    by false p q f g h = cc

-- ---- a step of a derivation

-- the tests of a step by itself, and then those of its rule
all : (form p q : Bool) (r : Rule) (after : Rule → Reading (Unit {0})) (earlier there counted met : Bool)
    → require earlier 64 (and_then (require there 65 (require counted 66 (accepted (tt {0})))) (λ u. require met 67 (accepted (tt {0})))) ≡ after r
    → require form 61 (require p 62 (require q 63 (require earlier 64 (require there 65 (require counted 66 (require met 67 (accepted (tt {0}))))))))
    ≡ and_then (require form 61 (require p 62 (require q 63 (accepted r)))) after
all false p q r after a b c d e = refl
all true false q r after a b c d e = refl
all true true false r after a b c d e = refl
all true true true r after false b c d e = e
all true true true r after true false c d e = e
all true true true r after true true false d e = e
all true true true r after true true true d e = e

-- the tests of a step's rule, after the step by itself: its premises, its grant, and the rule
tests : (grants bits : ℕ) → Ledger → List ℕ → ℕ → List ℕ → Rule → Reading (Unit {0})
tests grants bits l d k step r =
    require (premises_before r step k) 64
    (and_then (grant_check r step grants bits)
    (λ u. require (meets l r step (step_at d (byte 1 step)) (step_at d (byte 2 step))) 67 (accepted tt)))

module _ (ledger : List ℕ) (sizes : Sizes) (bits : ℕ) (l : Ledger) (f : Grant → Bool) (book : BookOf ledger sizes bits l f) (d : List ℕ) (k : ℕ) (step : List ℕ) where
  answer : check_at l f d k step ≡ and_then (read_step sizes.names (rule_of (byte 0 step)) step) (tests sizes.grants bits l d k step)
  unfolding check_step read_step tests
  answer =
      let r = rule_of (byte 0 step) in
      let many : length l.grants ≤ 64 = (ledger_stands ledger l book.of.is).count_most in
      let each : member (byte 3 step) bits ≡ of_grant f l.grants (byte 3 step) = rw book.are (bits_say f l.grants (byte 3 step) many) in
      rw book.of.names
      (all (step_form r step) (is_accepted (read_left l.names step)) (is_accepted (read_right l.names step)) r (tests sizes.grants bits l d k step)
      (premises_before r step k) (not (uses_of r).grant || ltb (byte 3 step) (length l.grants)) (not (uses_of r).grant || of_grant f l.grants (byte 3 step))
      (meets l r step (step_at d (byte 1 step)) (step_at d (byte 2 step))) (rw (book.of.count, each)))

  pub unread : (why : ℕ) → refused why ≡ read_step sizes.names (rule_of (byte 0 step)) step → refused why ≡ check_at l f d k step
  unread why e = rw (answer, ← e)

  module _ (r : Rule) (read : accepted r ≡ read_step sizes.names (rule_of (byte 0 step)) step) where
    pub later : premises_before r step k ≡ false → refused 64 ≡ check_at l f d k step
    unfolding tests
    later e = rw (answer, ← read, e)

    module _ (earlier : premises_before r step k ≡ true) where
      pub no_grant : (why : ℕ) → refused why ≡ grant_check r step sizes.grants bits → refused why ≡ check_at l f d k step
      unfolding tests
      no_grant why e = rw (answer, ← read, earlier, ← e)

      module _ (u : Unit {0}) (counts : accepted u ≡ grant_check r step sizes.grants bits) where
        -- the rule can be judged once the step is read and its grant is there
        pub ready : Ready ledger sizes.names r step l
        ready =
            let told = read_told sizes.names r _ step read in
            record { is = book.of.is; names = book.of.names; left_read = told.left_read; right_read = told.right_read; grant_there = rw (← book.of.count) (there _ _ counts) }
          where
            there : (a b : Bool) → accepted u ≡ require a 65 (require b 66 (accepted tt)) → a ≡ true
            there true b e = refl
            there false b e = cc

        module _ (met : Bool) (judged : met ≡ meets l r step (step_at d (byte 1 step)) (step_at d (byte 2 step))) where
          pub last : check_at l f d k step ≡ require met 67 (accepted tt)
          unfolding tests
          last = rw (answer, ← read, earlier, ← counts, judged)

-- ---- the steps, one after another

module _ (l : Ledger) (f : Grant → Bool) (d : List ℕ) where
  -- the answer for step k and those after it
  pub steps_from : ℕ → Answer
  steps_from k = check_steps l f d k (step_count d - k)

  pub steps_start : steps_from 0 ≡ check_steps l f d 0 (step_count d)
  unfolding steps_from
  steps_start = rw (sub-zero (step_count d))

  pub steps_more : (k : ℕ) → k < step_count d → steps_from k ≡ on_step k (check_at l f d k (step_at d k)) (steps_from (k + 1))
  unfolding steps_from check_steps
  steps_more k h =
      let left : step_count d - k ≡ suc (step_count d - (k + 1)) = omega arith in
      rw (left, add-one)

  pub steps_end : (k : ℕ) → step_count d ≤ k → steps_from k ≡ Yes
  unfolding steps_from check_steps
  steps_end k h =
      let none : step_count d - k ≡ 0 = omega arith in
      rw none

-- a derivation cut into its steps
module _ (d : List ℕ) (steps : List (List ℕ)) (cut : steps ≡ first_chunks 136 (step_count d) d) where
  steps_count : length steps ≡ step_count d
  steps_count = rw (cut, chunks 136 (step_count d) d) (length-pieces 136 (step_count d) d)

  pub step_here : (k : ℕ) → k < length steps → get_or steps k [] ≡ step_at d k
  step_here k h = rw (cut, chunks 136 (step_count d) d) (get_or-pieces 136 (step_count d) k d [] (rw steps_count at h))

-- what the check of step k gives, a refusal with the step's number
module _ (k : ℕ) (P : StepRefusal → DerivationRefusal → Type 0) (named : (why : StepRefusal) (y : DerivationRefusal) → P why y → y ≡ Step k why) (next : Answer) (r : Reading (Unit {0}))
    (a : Result (Unit {0}) StepRefusal) (b : Result (Unit {0}) DerivationRefusal) (e : step_reading a ≡ r) (m : MatchResult a (λ x. b ≡ Ok x) (λ why. IsErrAnd b (P why))) where
  pub step_stopped : (y : DerivationRefusal) → b ≡ Err y → refusal_of y ≡ on_step k r next
  step_stopped y h = by a e m
    where
      by : (a : Result (Unit {0}) StepRefusal) → step_reading a ≡ r → MatchResult a (λ x. b ≡ Ok x) (λ why. IsErrAnd b (P why)) → refusal_of y ≡ on_step k r next
      by (Ok v) e m = let z : Ok v ≡ Err y = sym m ∙ h in cc
      by (Err why) e m =
          let p = err_from_is_err_and b m in
          let z : Err y ≡ Err p.0 = sym h ∙ p.1 in
          let w : y ≡ p.0 = cc in
          rw (w, named why p.0 p.2, ← e)

  pub step_passed : (u : Unit {0}) → b ≡ Ok u → on_step k r next ≡ next
  step_passed u h = by a e m
    where
      by : (a : Result (Unit {0}) StepRefusal) → step_reading a ≡ r → MatchResult a (λ x. b ≡ Ok x) (λ why. IsErrAnd b (P why)) → on_step k r next ≡ next
      by (Ok v) e m = rw (← e)
      by (Err why) e m = let p = err_from_is_err_and b m in let z : Ok u ≡ Err p.0 = sym h ∙ p.1 in cc

-- ---- the whole check: the day, the ledger and the label, the length, the steps

module _ (d ledger label : List ℕ) (day : ℕ) where
  pub day_refused : real_date day ≡ false → RefusedAnswer 86 ≡ check_derivation d ledger label day
  unfolding check_derivation
  day_refused e = rw e

module _ (d ledger label : List ℕ) (day : ℕ) (real : real_date day ≡ true) where
  pub book_refused : (r : ℕ) → read_book ledger label day ≡ refused r → RefusedAnswer r ≡ check_derivation d ledger label day
  unfolding check_derivation
  book_refused r e = rw (real, e)

  module _ (sizes : Sizes) (read : AcceptedBook ledger label sizes.names sizes.grants) where
    pub length_refused : derivation_length (length d) ≡ false → RefusedAnswer 60 ≡ check_derivation d ledger label day
    unfolding check_derivation
    length_refused e = rw (real, read.is day, e)

    -- what the steps' check says of the bits, and what the bits are
    pub steps_checked : (bits : ℕ) (answer : Answer) → derivation_length (length d) ≡ true
        → bits ≡ counted_in ledger sizes.names sizes.grants label day
        → ((l : Ledger) (f : Grant → Bool) → BookOf ledger sizes bits l f → answer ≡ check_steps l f d 0 (step_count d))
        → answer ≡ check_derivation d ledger label day
    unfolding check_derivation
    steps_checked bits answer e counted checked =
        rw (real, read.is day, e)
        (checked read.book (counts_under (under sizes.names read.L day))
        (record { of = read.of; are = counted ∙ counted_in_lem ledger sizes.names sizes.grants read.book read.of read.L label day read.label_is }))

-- ---- quoting

module _ (d ledger label : List ℕ) (day k : ℕ) where
  -- the check accepts: the block of the grant that step k names, if there is such a step and it is one of rule 2
  pub quote_told : (step : List ℕ) (there granted : Bool) → check_derivation d ledger label day ≡ Yes → step ≡ step_at d k → ltb k (step_count d) ≡ there → eqb (byte 0 step) 2 ≡ granted
      → quote d ledger label day k ≡ cond (there && granted) (grant_block ledger (byte 3 step)) []
  unfolding quote
  quote_told step there granted e at h r = rw (e, ← at, h, r)

  pub quote_refused : (a : Answer) → check_derivation d ledger label day ≡ a → ((part : List ℕ) → if_accepted a part ≡ []) → quote d ledger label day k ≡ []
  unfolding quote
  quote_refused a e none = rw e (none _)

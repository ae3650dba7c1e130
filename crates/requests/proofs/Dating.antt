-- The days of a grant and the day of a call. Assumes nothing.
use mathlib.Core.Path.{◌≡◌, refl, sym, ap}
use mathlib.Core.Logic.{inl, inr, ◌⊎◌}
use Prim.Native.Nat.{ℕ, zero, suc, ◌<◌}
use mathlib.Core.Bool.{Bool, true, false, ◌&&◌, ◌||◌, and-false, true≢false}
use mathlib.Core.List.{List, [], ◌∷◌}
use native.Mathlib.Omega.{arith}
use lib.Dec.{eqb, leb}
use borrow.Author.Tests.{eq-eqb, ne_eqb, leb-false, lt-leb}
use Rattle.model.specs.Readings.{Reading, accepted, refused, and_then, from, require, refused_as}
use Rattle.model.specs.Terms.{read_term}
use Rattle.model.specs.Dates.{real_date, date_or_none, in_order, in_days}
use Rattle.model.specs.Grants.{Grant, Under, under, read_under, counts_under, of_grant}
use Rattle.model.specs.Ledgers.{grant_form, read_terms, read_days, read_grant}
use Rattle.model.specs.Questions.{ask, acts_for, flows_to}
use Rattle.model.specs.Extracts.{extract_of, extract}
use Rattle.model.specs.Derivations.{check_derivation, quote}
use Rattle.model.proofs.Truth.{clash, or_right}
use Rattle.model.proofs.Accepted.{accepted_same, then_accepted}
use Rattle.model.proofs.Dates.{real_says, real_most, next_least, add_exactly, add_refused}
use Rattle.requests.specs.Days.{NextDayIsLeast, AddsDays, BadDate, DateRefused, OrderRefused, DaysRefused, BadDayRefused, OutsideDaysChangeNothing}
use Rattle.demands.specs.Numbers.{question_refusals, extract_refusals, derivation_refusals, AnswersQuestion, AnswersExtract, AnswersDerivation}
use Rattle.demands.proofs.Figures.{questions_answered, extracts_answered, derivations_answered, given_86}
use Rattle.demands.proofs.Comparing.{uncounted_change_nothing}

pub next_day_is_least : NextDayIsLeast
next_day_is_least = record { next = next_least; last = real_most }

pub adds_days : AddsDays
adds_days = record { sum_exactly = add_exactly; refused_by = add_refused }

-- ---- 84 and 85

real_some : (date : ℕ) → real_date date ≡ true → date ≡ 0 → ⊥
real_some date e z = let r = (real_says date).0 e in omega (arith, r.written, r.year_least)

bad_date : (edge : ℕ) → date_or_none edge ≡ false → BadDate edge
unfolding date_or_none
bad_date edge = by (eqb edge 0) refl
  where
    by : (b : Bool) → eqb edge 0 ≡ b → (b || real_date edge) ≡ false → BadDate edge
    by true q e = absurd (true≢false e)
    by false q e = (λ z. clash (eq-eqb edge 0 z) q, e)

bad_none : (edge : ℕ) → BadDate edge → date_or_none edge ≡ false
unfolding date_or_none
bad_none edge h = rw (ne_eqb edge 0 h.0, h.1)

real_edge : (edge : ℕ) → real_date edge ≡ true → date_or_none edge ≡ true
unfolding date_or_none
real_edge edge e = or_right (eqb edge 0) e

edge_real : (edge : ℕ) → eqb edge 0 ≡ false → date_or_none edge ≡ true → real_date edge ≡ true
unfolding date_or_none
edge_real edge q e = rw q at e

-- a block that is refused by a number past 14 has its form, and its terms are read
module _ (n : ℕ) (block : List ℕ) (r : ℕ) (past : 14 < r) where
  record Late : Type 0 where
    grant : Grant
    form : grant_form block ≡ true
    terms : read_terms n block ≡ accepted grant
    days : read_days grant ≡ refused r

  late : read_grant n block ≡ refused r → Late
  unfolding read_grant
  late = on (grant_form block) refl (read_terms n block) refl
    where
      on : (b : Bool) → grant_form block ≡ b → (t : Reading Grant) → read_terms n block ≡ t → require b 13 (and_then (refused_as 14 t) read_days) ≡ refused r → Late
      on false f t q e = absurd (let z : 13 ≡ r = cc in omega arith)
      on true f (refused k) q e = absurd (let z : 14 ≡ r = cc in omega arith)
      on true f (accepted g) q e = record { grant = g; form = f; terms = q; days = e }

date_refused : (n : ℕ) (block : List ℕ) → read_grant n block ≡ refused 84 → DateRefused n block
unfolding read_days
date_refused n block e =
    let l = late n block 84 (omega arith) e in
    record {
      grant = l.grant;
      read = record { form = l.form; terms = l.terms };
      bad = by l.grant (date_or_none l.grant.first) refl (date_or_none l.grant.last) refl (in_order l.grant.first l.grant.last) l.days;
    }
  where
    by : (g : Grant) (a : Bool) → date_or_none g.first ≡ a → (b : Bool) → date_or_none g.last ≡ b → (o : Bool)
        → require (a && b) 84 (require o 85 (accepted g)) ≡ refused 84 → BadDate g.first ⊎ BadDate g.last
    by g false p b q o h = inl (bad_date g.first p)
    by g true p false q o h = inr (bad_date g.last q)
    by g true p true q true h = absurd (let z : ◌≡◌ {A = ℕ} 0 1 = cc in omega arith)
    by g true p true q false h = absurd (let z : ◌≡◌ {A = ℕ} 85 84 = cc in omega arith)

refused_date : (n : ℕ) (block : List ℕ) → DateRefused n block → read_grant n block ≡ refused 84
unfolding read_grant read_days
refused_date n block d = rw (d.read.form, d.read.terms) (by d.bad)
  where
    by : BadDate d.grant.first ⊎ BadDate d.grant.last
        → require (date_or_none d.grant.first && date_or_none d.grant.last) 84 (require (in_order d.grant.first d.grant.last) 85 (accepted d.grant)) ≡ refused 84
    by (inl h) = rw (bad_none d.grant.first h)
    by (inr h) = rw (bad_none d.grant.last h, and-false)

order_refused : (n : ℕ) (block : List ℕ) → read_grant n block ≡ refused 85 → OrderRefused n block
unfolding read_days in_order
order_refused n block e =
    let l = late n block 85 (omega arith) e in
    by l.grant l.form l.terms (date_or_none l.grant.first) refl (date_or_none l.grant.last) refl (eqb l.grant.first 0) refl (eqb l.grant.last 0) refl (leb l.grant.first l.grant.last) refl l.days
  where
    by : (g : Grant) → grant_form block ≡ true → read_terms n block ≡ accepted g → (a : Bool) → date_or_none g.first ≡ a → (b : Bool) → date_or_none g.last ≡ b
        → (x : Bool) → eqb g.first 0 ≡ x → (y : Bool) → eqb g.last 0 ≡ y → (o : Bool) → leb g.first g.last ≡ o
        → require (a && b) 84 (require (x || (y || o)) 85 (accepted g)) ≡ refused 85 → OrderRefused n block
    by g f t false p b q x r y s o w h = absurd (let z : ◌≡◌ {A = ℕ} 84 85 = cc in omega arith)
    by g f t true p false q x r y s o w h = absurd (let z : ◌≡◌ {A = ℕ} 84 85 = cc in omega arith)
    by g f t true p true q true r y s o w h = absurd (let z : ◌≡◌ {A = ℕ} 0 1 = cc in omega arith)
    by g f t true p true q false r true s o w h = absurd (let z : ◌≡◌ {A = ℕ} 0 1 = cc in omega arith)
    by g f t true p true q false r false s true w h = absurd (let z : ◌≡◌ {A = ℕ} 0 1 = cc in omega arith)
    by g f t true p true q false r false s false w h = record {
      grant = g;
      read = record { form = f; terms = t };
      first_real = edge_real g.first r p;
      last_real = edge_real g.last s q;
      reversed = leb-false g.first g.last w;
    }

refused_order : (n : ℕ) (block : List ℕ) → OrderRefused n block → read_grant n block ≡ refused 85
unfolding read_grant read_days in_order
refused_order n block d =
    rw (
      d.read.form,
      d.read.terms,
      real_edge d.grant.first d.first_real,
      real_edge d.grant.last d.last_real,
      ne_eqb d.grant.first 0 (real_some d.grant.first d.first_real),
      ne_eqb d.grant.last 0 (real_some d.grant.last d.last_real),
      lt-leb d.grant.first d.grant.last d.reversed,
    )

pub days_refused : DaysRefused
days_refused = record {
  date = λ n block. (date_refused n block, refused_date n block);
  order = λ n block. (order_refused n block, refused_order n block);
}

-- ---- 86

pub bad_day_refused : BadDayRefused
unfolding ask acts_for flows_to extract_of extract check_derivation quote
bad_day_refused = record {
  by_acts_for = λ ledger p q label day. (given_86 question_refusals day (AnswersQuestion ledger day) _ (omega arith) (λ h. h) (questions_answered.by_acts_for ledger p q label day), λ f. rw f);
  by_flows_to = λ ledger p q label day. (given_86 question_refusals day (AnswersQuestion ledger day) _ (omega arith) (λ h. h) (questions_answered.by_flows_to ledger p q label day), λ f. rw f);
  extracts = λ ledger label day buffer. (given_86 extract_refusals day (AnswersExtract day) _ (omega arith) (λ h. h) (extracts_answered ledger label day buffer), λ f. rw f);
  derivations = λ d ledger label day. (given_86 derivation_refusals day (AnswersDerivation d day) _ (omega arith) (λ h. h) (derivations_answered d ledger label day), λ f. rw f);
  quotes = λ d ledger label day step f. rw f;
}

-- ---- grants outside their days

under_day : (n : ℕ) (label : List ℕ) (day : ℕ) (u : Under) → read_under n label day ≡ accepted u → u.day ≡ day
under_day n label day u e =
    let t = then_accepted (from 40 (read_term n label)) (λ L. accepted (under n L day)) u e in
    sym (ap (λ (x : Under). x.day) (accepted_same t.then))

of_grant_false : (f h : Grant → Bool) → ((g : Grant) → f g ≡ false → h g ≡ false) → (gs : List Grant) (k : ℕ) → of_grant f gs k ≡ false → of_grant h gs k ≡ false
unfolding of_grant
of_grant_false f h less [] k e = refl
of_grant_false f h less (g ∷ gs) zero e = less g e
of_grant_false f h less (g ∷ gs) (suc k) e = of_grant_false f h less gs k e

not-counting : (u : Under) (g : Grant) → in_days g.first g.last u.day ≡ false → counts_under u g ≡ false
unfolding counts_under
not-counting u g e = rw e

pub outside_days_change_nothing : OutsideDaysChangeNothing
outside_days_change_nothing a label day l u out real e k h =
    let on = under_day l.names label day u k in
    (uncounted_change_nothing a label day l u out real e k
    (λ j o. of_grant_false (λ g. in_days g.first g.last day) (counts_under u) (λ g q. not-counting u g (rw on q)) l.grants j (h j o))).1

-- Laws of dates: what the tests say, the least real date after a date, and days added one after another. Assumes nothing.
use mathlib.Core.Path.{◌≡◌, refl, ap, ◌∙◌}
use mathlib.Core.Logic.{◌⊎◌, inl, inr, ◌↔◌, ⊎_elim}
use mathlib.Core.Bool.{Bool, true, false, ◌&&◌, ◌||◌}
use Prim.Native.Nat.{ℕ, zero, suc, ◌+◌, ◌≤◌, ◌<◌}
use native.Mathlib.Nat.{zero-add, suc-add}
use native.Mathlib.Decide.{dec_lt}
use native.Mathlib.Omega.{arith}
use lib.Dec.{eqb, ltb, leb}
use borrow.Author.Tests.{eqb-true, eq-eqb, ltb-true, ltb-false, lt-ltb, leb-true, le-leb}
use Rattle.model.specs.Readings.{Reading, accepted, refused, and_then, require}
use Rattle.model.specs.Dates.{date_of, year_of, month_of, day_of, leap, days_in, real_date, next_day, days_later, add_days, in_days}
use Rattle.model.specs.Meanings.{InDays, RealDate, NextDate, DaysAfter, same, step}
use Rattle.model.proofs.Truth.{and_left, and_right, and_intro, or_left, or_right, or_elim, cond_case}
use Rattle.model.proofs.Accepted.{accepted_same, require_accepted}

-- the day is in the days
pub days_say : (first last day : ℕ) → in_days first last day ≡ true ↔ InDays first last day
unfolding in_days
days_say first last day = (there, back)
  where
    there : in_days first last day ≡ true → InDays first last day
    there e = (
      or_elim (eqb first 0) (leb first day) (λ h. inl (eqb-true first 0 h)) (λ h. inr (leb-true first day h)) (and_left (eqb first 0 || leb first day) (eqb last 0 || leb day last) e),
      or_elim (eqb last 0) (leb day last) (λ h. inl (eqb-true last 0 h)) (λ h. inr (leb-true day last h)) (and_right (eqb first 0 || leb first day) (eqb last 0 || leb day last) e),
    )

    back : InDays first last day → in_days first last day ≡ true
    back w =
        and_intro
        (⊎_elim (λ h. or_left (leb first day) (eq-eqb first 0 h)) (λ h. or_right (eqb first 0) (le-leb first day h)) w.0)
        (⊎_elim (λ h. or_left (leb day last) (eq-eqb last 0 h)) (λ h. or_right (eqb last 0) (le-leb day last h)) w.1)

-- ---- real dates

-- a month has 28 to 31 days
days_range : (year month : ℕ) → (28 ≤ days_in year month) × (days_in year month ≤ 31)
unfolding days_in
days_range year month =
    cond_case (λ d. (28 ≤ d) × (d ≤ 31)) (eqb month 2) _ _
    (λ _. cond_case (λ d. (28 ≤ d) × (d ≤ 31)) (leap year) 29 28 (λ _. (omega arith, omega arith)) (λ _. (omega arith, omega arith)))
    (λ _. cond_case (λ d. (28 ≤ d) × (d ≤ 31)) (eqb month 4 || (eqb month 6 || (eqb month 9 || eqb month 11))) 30 31 (λ _. (omega arith, omega arith)) (λ _. (omega arith, omega arith)))

december : (year : ℕ) → days_in year 12 ≡ 31
unfolding days_in
december year = refl

-- year, month and day of a real date
record Parts (date : ℕ) : Type 0 where
  year_least : 1900 ≤ year_of date
  year_most : year_of date ≤ 2199
  month_least : 1 ≤ month_of date
  month_most : month_of date ≤ 12
  day_least : 1 ≤ day_of date
  day_most : day_of date ≤ days_in (year_of date) (month_of date)

parts : (date : ℕ) → real_date date ≡ true → Parts date
unfolding real_date
parts date e =
    let e₁ = and_right (leb 1900 (year_of date)) _ e in
    let e₂ = and_right (leb (year_of date) 2199) _ e₁ in
    let e₃ = and_right (leb 1 (month_of date)) _ e₂ in
    let e₄ = and_right (leb (month_of date) 12) _ e₃ in
    record {
      year_least = leb-true 1900 (year_of date) (and_left (leb 1900 (year_of date)) _ e);
      year_most = leb-true (year_of date) 2199 (and_left (leb (year_of date) 2199) _ e₁);
      month_least = leb-true 1 (month_of date) (and_left (leb 1 (month_of date)) _ e₂);
      month_most = leb-true (month_of date) 12 (and_left (leb (month_of date) 12) _ e₃);
      day_least = leb-true 1 (day_of date) (and_left (leb 1 (day_of date)) _ e₄);
      day_most = leb-true (day_of date) (days_in (year_of date) (month_of date)) (and_right (leb 1 (day_of date)) _ e₄);
    }

-- a date is real exactly if it is written from a year, a month and a day
pub real_says : (date : ℕ) → real_date date ≡ true ↔ RealDate date
unfolding real_date
real_says date = (there, back)
  where
    there : real_date date ≡ true → RealDate date
    there e =
        let r = parts date e in
        record {
          year = year_of date;
          month = month_of date;
          day = day_of date;
          written = omega arith;
          year_least = r.year_least;
          year_most = r.year_most;
          month_least = r.month_least;
          month_most = r.month_most;
          day_least = r.day_least;
          day_most = r.day_most;
        }

    back : RealDate date → real_date date ≡ true
    back r =
        let few = days_range r.year r.month in
        let y : year_of date ≡ r.year = omega (arith, r.written, r.month_most, r.day_most) in
        let m : month_of date ≡ r.month = omega (arith, r.written, r.month_most, r.day_most) in
        let d : day_of date ≡ r.day = omega (arith, r.written, r.month_most, r.day_most) in
        rw (y, m, d)
        (and_intro (le-leb 1900 r.year r.year_least)
        (and_intro (le-leb r.year 2199 r.year_most)
        (and_intro (le-leb 1 r.month r.month_least)
        (and_intro (le-leb r.month 12 r.month_most)
        (and_intro (le-leb 1 r.day r.day_least)
        (le-leb r.day (days_in r.year r.month) r.day_most))))))

-- 31 December 2199 is the last
pub real_most : (date : ℕ) → real_date date ≡ true → date ≤ 21991231
real_most date e =
    let r = parts date e in
    omega (arith, r.year_most, r.month_most, r.day_most, days_range (year_of date) (month_of date))

-- ---- the next day

module _ (date : ℕ) (e : real_date date ≡ true) where
  -- within the month
  next_in_month : day_of date < days_in (year_of date) (month_of date) → NextDate date (date + 1)
  next_in_month h =
      let r = parts date e in
      let few = days_range (year_of date) (month_of date) in
      record {
        real = (real_says (date + 1)).1 (record {
          year = year_of date;
          month = month_of date;
          day = day_of date + 1;
          written = omega arith;
          year_least = r.year_least;
          year_most = r.year_most;
          month_least = r.month_least;
          month_most = r.month_most;
          day_least = omega arith;
          day_most = omega arith;
        });
        after = omega arith;
        least = λ x _ l. omega arith;
      }

  -- from the last day of a month to the first of the next
  next_in_year : days_in (year_of date) (month_of date) ≤ day_of date → month_of date < 12 → NextDate date (date_of (year_of date) (month_of date + 1) 1)
  next_in_year h m =
      let r = parts date e in
      record {
        real = (real_says _).1 (record {
          year = year_of date;
          month = month_of date + 1;
          day = 1;
          written = refl;
          year_least = r.year_least;
          year_most = r.year_most;
          month_least = omega arith;
          month_most = omega arith;
          day_least = omega arith;
          day_most = omega (arith, days_range (year_of date) (month_of date + 1));
        });
        after = omega (arith, r.day_most, days_range (year_of date) (month_of date));
        least = least;
      }
    where
      -- a real date between the two would be a further day of the same month
      between : (x : ℕ) → Parts x → date < x → x < date_of (year_of date) (month_of date + 1) 1 → (year_of x ≡ year_of date) × (month_of x ≡ month_of date)
      between x r l b = (omega (arith, r.day_least, r.month_least), omega (arith, r.day_least, r.month_least))

      least : (x : ℕ) → real_date x ≡ true → date < x → date_of (year_of date) (month_of date + 1) 1 ≤ x
      least x t l = elim (dec_lt x (date_of (year_of date) (month_of date + 1) 1)) [
        | yes b ↦
            let r = parts x t in
            let s = between x r l b in
            let most : day_of x ≤ days_in (year_of date) (month_of date) = rw (s.0, s.1) at r.day_most in
            absurd (omega (arith, s.0, s.1))
        | no b ↦ omega arith
      ]

  -- from the last day of a year to the first of the next
  next_year : date < 21991231 → days_in (year_of date) (month_of date) ≤ day_of date → 12 ≤ month_of date → NextDate date (date_of (year_of date + 1) 1 1)
  next_year h d m =
      let r = parts date e in
      let twelve : month_of date ≡ 12 = omega (arith, r.month_most) in
      let last : days_in (year_of date) (month_of date) ≡ 31 = ap (days_in (year_of date)) twelve ∙ december (year_of date) in
      record {
        real = (real_says _).1 (record {
          year = year_of date + 1;
          month = 1;
          day = 1;
          written = refl;
          year_least = omega (arith, r.year_least);
          year_most = omega (arith, last);
          month_least = omega arith;
          month_most = omega arith;
          day_least = omega arith;
          day_most = omega (arith, days_range (year_of date + 1) 1);
        });
        after = omega (arith, r.day_most, last);
        least = λ x t l.
            let s = parts x t in
            omega (arith, last, s.month_least, s.month_most, s.day_least, s.day_most, days_range (year_of x) (month_of x));
      }

  -- but for the last, the next day of a real date is the least real date after it
  pub next_least : date < 21991231 → NextDate date (next_day date)
  unfolding next_day
  next_least h =
      cond_case (NextDate date) (ltb (day_of date) (days_in (year_of date) (month_of date))) _ _
      (λ t. next_in_month (ltb-true _ _ t))
      (λ f. cond_case (NextDate date) (ltb (month_of date) 12) _ _ (λ t. next_in_year (ltb-false _ _ f) (ltb-true _ _ t)) (λ g. next_year h (ltb-false _ _ f) (ltb-false _ _ g)))

-- there is one least
next_one : (date a b : ℕ) → NextDate date a → NextDate date b → a ≡ b
next_one date a b s t = omega (arith, s.least b t.real t.after, t.least a s.real s.after)

-- ---- adding days

later_there : (count date later : ℕ) → real_date date ≡ true → days_later count date ≡ accepted later → DaysAfter count date later
unfolding days_later
later_there zero date later r e = rw (accepted_same e) same
later_there (suc count) date later r e =
    let w = require_accepted (ltb date 21991231) 86 _ later e in
    let n = next_least date r (ltb-true date 21991231 w.0) in
    step n (later_there count (next_day date) later n.real w.1)

later_back : {count date later : ℕ} → DaysAfter count date later → real_date date ≡ true → days_later count date ≡ accepted later
unfolding days_later
later_back same r = refl
later_back (step {count} {date} {next} {later} n rest) r =
    let below : date < 21991231 = omega (arith, n.after, real_most next n.real) in
    let here : next_day date ≡ next = next_one date (next_day date) next (next_least date r below) n in
    rw (lt-ltb date 21991231 below, here) (later_back rest n.real)

-- days are added exactly if the date is real, they are at most 366, and there is a real date after so many
pub add_exactly : (date count later : ℕ) → add_days date count ≡ accepted later ↔ ((real_date date ≡ true) × (count ≤ 366) × DaysAfter count date later)
unfolding add_days
add_exactly date count later = (
  λ e.
      let w = require_accepted (real_date date && leb count 366) 86 _ later e in
      let real = and_left (real_date date) (leb count 366) w.0 in
      (real, leb-true count 366 (and_right (real_date date) (leb count 366) w.0), later_there count date later real w.1),
  λ h. rw (h.0, le-leb count 366 h.1) (later_back h.2 h.0),
)

later_refused : (count date r : ℕ) → days_later count date ≡ refused r → r ≡ 86
unfolding days_later
later_refused zero date r e = cc
later_refused (suc count) date r e = by (later_refused count (next_day date) r) (ltb date 21991231) e
  where
    by : (days_later count (next_day date) ≡ refused r → r ≡ 86) → (t : Bool) → require t 86 (days_later count (next_day date)) ≡ refused r → r ≡ 86
    by ih true q = ih q
    by ih false q = cc

-- no other refusal
pub add_refused : (date count r : ℕ) → add_days date count ≡ refused r → r ≡ 86
unfolding add_days
add_refused date count r = by (real_date date && leb count 366)
  where
    by : (t : Bool) → require t 86 (days_later count date) ≡ refused r → r ≡ 86
    by true q = later_refused count date r q
    by false q = cc

later_sum : (a b date : ℕ) → days_later (a + b) date ≡ and_then (days_later a date) (days_later b)
unfolding days_later
later_sum zero b date = rw zero-add
later_sum (suc a) b date = rw suc-add (by (later_sum a b (next_day date)) (ltb date 21991231))
  where
    by : days_later (a + b) (next_day date) ≡ and_then (days_later a (next_day date)) (days_later b) → (t : Bool)
        → require t 86 (days_later (a + b) (next_day date)) ≡ and_then (require t 86 (days_later a (next_day date))) (days_later b)
    by ih true = ih
    by ih false = refl

-- a real date was reached
reached_real : {count date later : ℕ} → DaysAfter count date later → real_date date ≡ true → real_date later ≡ true
reached_real same r = r
reached_real (step n rest) r = reached_real rest n.real

-- adding a days and then b is adding a + b
pub add_sum : (date a b : ℕ) → a + b ≤ 366 → add_days date (a + b) ≡ and_then (add_days date a) (λ later. add_days later b)
unfolding add_days
add_sum date a b h = rw (le-leb (a + b) 366 h, le-leb a 366 (omega arith), le-leb b 366 (omega arith)) (on (real_date date) refl)
  where
    later : real_date date ≡ true → (r : Reading ℕ) → days_later a date ≡ r → and_then r (days_later b) ≡ and_then r (λ later. require (real_date later && true) 86 (days_later b later))
    later real (accepted x) e = rw (reached_real (later_there a date x real e) real)
    later real (refused k) e = refl

    on : (t : Bool) → real_date date ≡ t
        → require (t && true) 86 (days_later (a + b) date) ≡ and_then (require (t && true) 86 (days_later a date)) (λ later. require (real_date later && true) 86 (days_later b later))
    on true e = later_sum a b date ∙ later e (days_later a date) refl
    on false e = refl

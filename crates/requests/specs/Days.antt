-- Document 02, K2: days. What a real date is, adding days, the days of a grant, and the day of a call. Assumes nothing: these are the statements.
use Rattle.std.specs.Prelude.{◌≡◌, ◌⊎◌, ◌↔◌, ℕ, ◌+◌, ◌≤◌, ◌<◌, Bool, true, false, List, []}
use Rattle.model.specs.Readings.{accepted, refused, and_then}
use Rattle.model.specs.Dates.{real_date, next_day, add_days, in_days}
use Rattle.model.specs.Grants.{Grant, Under, read_under, of_grant}
use Rattle.model.specs.Ledgers.{grant_form, read_terms, read_grant, Ledger, read_ledger, without}
use Rattle.model.specs.Answers.{Refused}
use Rattle.model.specs.Questions.{acts_for, flows_to}
use Rattle.model.specs.Extracts.{extract}
use Rattle.model.specs.Derivations.{check_derivation, quote}
use Rattle.model.specs.Meanings.{RealDate, NextDate, DaysAfter}
use Rattle.demands.specs.Extracts.{SameRights}

-- A date is real exactly if it is a day of a month of a year from 1900 to 2199, written as one number.
abbrev pub RealMeans : Type 0
RealMeans = (date : ℕ) → real_date date ≡ true ↔ RealDate date

-- The next day of a real date is the least real date after it, so that none is skipped; 31 December 2199 is the last.
pub record NextDayIsLeast : Type 0 where
  pub next : (date : ℕ) → real_date date ≡ true → date < 21991231 → NextDate date (next_day date)
  pub last : (date : ℕ) → real_date date ≡ true → date ≤ 21991231

-- Days are added exactly if the date is real, they are at most 366, and there is a real date so many after it, which is the sum; what is not added is refused by 86.
pub record AddsDays : Type 0 where
  pub sum_exactly : (date count later : ℕ) → add_days date count ≡ accepted later ↔ ((real_date date ≡ true) × (count ≤ 366) × DaysAfter count date later)
  pub refused_by : (date count r : ℕ) → add_days date count ≡ refused r → r ≡ 86

-- Adding a and then b days is adding a + b.
abbrev pub AddsTwice : Type 0
AddsTwice = (date a b : ℕ) → a + b ≤ 366 → add_days date (a + b) ≡ and_then (add_days date a) (λ later. add_days later b)

-- a grant's block of the right form, whose terms are accepted: there is no 13 and no 14
pub record TermsRead (n : ℕ) (block : List ℕ) (g : Grant) : Type 0 where
  pub form : grant_form block ≡ true
  pub terms : read_terms n block ≡ accepted g

-- not 0 and not real
abbrev pub BadDate : ℕ → Type 0
BadDate edge = (edge ≡ 0 → ⊥) × (real_date edge ≡ false)

-- such a block, with a date that is not 0 and not real
pub record DateRefused (n : ℕ) (block : List ℕ) : Type 0 where
  pub grant : Grant
  pub read : TermsRead n block grant
  pub bad : BadDate grant.first ⊎ BadDate grant.last

-- such a block with two real dates, the last before the first
pub record OrderRefused (n : ℕ) (block : List ℕ) : Type 0 where
  pub grant : Grant
  pub read : TermsRead n block grant
  pub first_real : real_date grant.first ≡ true
  pub last_real : real_date grant.last ≡ true
  pub reversed : grant.last < grant.first

-- 84 and 85, after 13 and 14 of the same grant, each exactly under its condition
pub record DaysRefused : Type 0 where
  pub date : (n : ℕ) (block : List ℕ) → read_grant n block ≡ refused 84 ↔ DateRefused n block
  pub order : (n : ℕ) (block : List ℕ) → read_grant n block ≡ refused 85 ↔ OrderRefused n block

-- A call is refused by 86 exactly if its day is no real date, whatever else it takes; nothing is quoted then.
pub record BadDayRefused : Type 0 where
  pub by_acts_for : (ledger p q label : List ℕ) (day : ℕ) → acts_for ledger p q label day ≡ Refused 86 ↔ (real_date day ≡ false)
  pub by_flows_to : (ledger p q label : List ℕ) (day : ℕ) → flows_to ledger p q label day ≡ Refused 86 ↔ (real_date day ≡ false)
  pub extracts : (ledger label : List ℕ) (day : ℕ) (buffer : List ℕ) → (extract ledger label day buffer).answer ≡ Refused 86 ↔ (real_date day ≡ false)
  pub derivations : (derivation ledger label : List ℕ) (day : ℕ) → check_derivation derivation ledger label day ≡ Refused 86 ↔ (real_date day ≡ false)
  pub quotes : (derivation ledger label : List ℕ) (day step : ℕ) → real_date day ≡ false → quote derivation ledger label day step ≡ []

-- every grant at whose number `out` holds is outside its days
abbrev pub OutOfDays : Ledger → ℕ → (ℕ → Bool) → Type 0
OutOfDays l day out = (k : ℕ) → out k ≡ true → of_grant (λ g. in_days g.first g.last day) l.grants k ≡ false

-- Leaving out grants that are outside their days changes nothing.
abbrev pub OutsideDaysChangeNothing : Type 0
OutsideDaysChangeNothing = (a label : List ℕ) (day : ℕ) (l : Ledger) (u : Under) (out : ℕ → Bool)
    → real_date day ≡ true → read_ledger a ≡ accepted l → read_under l.names label day ≡ accepted u → OutOfDays l day out
    → SameRights a (without out a) label day

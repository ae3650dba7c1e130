-- Document 02, K2: real dates, the next day, adding days, and the days of a grant. Assumes nothing: these are definitions.
use Rattle.std.specs.Prelude.{ℕ, zero, suc, ◌+◌, ◌*◌, ◌/◌, ◌%◌, Bool, cond, not, ◌&&◌, ◌||◌, eqb, ltb, leb}
use Rattle.model.specs.Readings.{Reading, accepted, require}

-- A date is one number.
abbrev pub date_of : ℕ → ℕ → ℕ → ℕ
date_of year month day = year * 10000 + month * 100 + day

-- its year, its month and its day
abbrev pub year_of : ℕ → ℕ
year_of date = date / 10000

abbrev pub month_of : ℕ → ℕ
month_of date = date / 100 % 100

abbrev pub day_of : ℕ → ℕ
day_of date = date % 100

-- every fourth year is a leap year; of the years that end a century, every fourth
unfoldable pub leap : ℕ → Bool
leap year = eqb (year % 4) 0 && (not (eqb (year % 100) 0) || eqb (year % 400) 0)

-- how many days a month of a year has
unfoldable pub days_in : ℕ → ℕ → ℕ
days_in year month =
    cond (eqb month 2) (cond (leap year) 29 28)
    (cond (eqb month 4 || (eqb month 6 || (eqb month 9 || eqb month 11))) 30 31)

-- a day of a month of a year from 1900 to 2199
unfoldable pub real_date : ℕ → Bool
real_date date = leb 1900 (year_of date)
    && (leb (year_of date) 2199
    && (leb 1 (month_of date)
    && (leb (month_of date) 12
    && (leb 1 (day_of date)
    && leb (day_of date) (days_in (year_of date) (month_of date))))))

-- the next day of the month, else the first of the next month, else the first of the next year
unfoldable pub next_day : ℕ → ℕ
next_day date =
    cond (ltb (day_of date) (days_in (year_of date) (month_of date))) (date + 1)
    (cond (ltb (month_of date) 12) (date_of (year_of date) (month_of date + 1) 1) (date_of (year_of date + 1) 1 1))

-- so many next days, 86 where one is past 2199
unfoldable pub days_later : ℕ → ℕ → Reading ℕ
days_later zero date = accepted date
days_later (suc count) date = require (ltb date 21991231) 86 (days_later count (next_day date))

-- 0 to 366 days added to a date
unfoldable pub add_days : ℕ → ℕ → Reading ℕ
add_days date count = require (real_date date && leb count 366) 86 (days_later count date)

-- ---- the days of a grant

-- 0 is no edge
unfoldable pub date_or_none : ℕ → Bool
date_or_none edge = eqb edge 0 || real_date edge

-- the first day is not after the last, where both are dates
unfoldable pub in_order : ℕ → ℕ → Bool
in_order first last = eqb first 0 || (eqb last 0 || leb first last)

-- both edges are inside
unfoldable pub in_days : ℕ → ℕ → ℕ → Bool
in_days first last day = (eqb first 0 || leb first day) && (eqb last 0 || leb day last)

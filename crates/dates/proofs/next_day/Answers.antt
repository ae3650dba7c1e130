use native.Mathlib.Omega.{arith}
use borrow.Author.Tests.{lt-ltb}
use Rattle.model.specs.Dates.{year_of, month_of, day_of, days_in, next_day}
use Rattle.dates.proofs.Later.{days_least}
use Rattle.dates.proofs.next_day.Goals as goal

pub returns-then-date-lt28 : goal.returns-then-date-lt28
unfolding next_day
returns-then-date-lt28 c =
    let d = c.args.date in
    let few = days_least (year_of d) (month_of d) in
    simp (lt-ltb (day_of d) (days_in (year_of d) (month_of d)) (omega arith))

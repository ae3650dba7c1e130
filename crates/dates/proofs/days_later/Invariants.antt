-- The loop keeps what is to come.
use Prim.Native.Nat.{◌-◌}
use mathlib.Core.Path.{◌≡◌}
use Rattle.model.specs.Dates.{days_later}
use Rattle.dates.proofs.days_later.Given as goal

abbrev pub invariant-loop : goal.invariant-loop
invariant-loop l = days_later (l.count - l.counter) l.reached ≡ days_later l.count l.date

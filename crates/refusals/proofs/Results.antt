-- What is known of a reading from the result that stands for it. Assumes nothing.
use Rattle.std.specs.Prelude.{ℕ}
use mathlib.Core.Path.{◌≡◌, refl}
use Rattle.model.specs.Readings.{Reading, accepted, refused}
use Rattle.refusals.specs.Results.{done}

-- A reading that something was done with is a reading of some value.
pub record Accepted {A : Type 0} (r : Reading A) : Type 0 where
  pub value : A
  pub is : r ≡ accepted value

pub done_accepted : {A : Type 0} (r : Reading A) → accepted tt ≡ done r → Accepted r
done_accepted (accepted a) e = record { value = a; is = refl }
done_accepted (refused k) e = cc

pub done_refused : {A : Type 0} (r : Reading A) (k : ℕ) → refused k ≡ done r → r ≡ refused k
done_refused (accepted a) k e = cc
done_refused (refused j) k e = cc

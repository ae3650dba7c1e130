use mathlib.Core.Path.{refl}
use Rattle.model.specs.Answers.{number}
use Rattle.trials.proofs.Heads.{head_told}
use Rattle.trials.proofs.live_calls.replied.Goals as goal

pub returns-in-Ok : goal.returns-in-Ok
unfolding number
returns-in-Ok c = rw c.in-Ok.is (record { number_is = refl; done = head_told c.in-Ok.live; refused = λ why e. cc })

pub returns-in-Err : goal.returns-in-Err
unfolding number
returns-in-Err c = rw c.in-Err.is (record { number_is = c.refused_number.ensures; done = λ live e. cc; refused = λ why e. (refl, refl) })

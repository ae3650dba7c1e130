use mathlib.Core.Path.{refl, ◌∙◌}
use Rattle.model.specs.Live.{sound_by}
use Rattle.stored.specs.Stored.{of_job}
use Rattle.stored.proofs.Storing.{judge_job}
use Rattle.stored.proofs.judge.Goals as goal

pub returns : goal.returns
returns c f h small =
    let a = c.args in
    c.first_refuter.ensures (sound_by (of_job a.n f)) (record { names = a.n; numbers = f; stored = h; small = small; is = λ s c. refl })
    ∙ judge_job a.relation a.n f _ _

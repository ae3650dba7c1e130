use mathlib.Core.Path.{sym, ap, ◌∙◌}
use Rattle.model.specs.Answers.{number}
use Rattle.refusals.specs.Results.{reading_of}
use Rattle.trials.specs.Figures.{sum_number}
use Rattle.trials.proofs.trials_add_days.Goals as goal

pub returns-in-Err : goal.returns-in-Err
unfolding number
returns-in-Err c = c.refused_number.ensures ∙ ap sum_number (sym (ap reading_of c.in-Err.is) ∙ c.add_days.ensures)

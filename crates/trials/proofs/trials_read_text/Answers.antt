-- The number of what `read_text` gives: a length fits in 32 bits.
use mathlib.Core.Path.{sym, ap, ◌∙◌}
use native.Mathlib.Omega.{arith}
use Rattle.model.specs.Answers.{Outcome, number}
use Rattle.model.proofs.Notation.{text_few}
use Rattle.rights.proofs.Fitting.{fits}
use Rattle.trials.proofs.trials_read_text.Goals as goal

pub returns-clause-answered : goal.returns-clause-answered
returns-clause-answered c =
    let a = c.args in
    let answer = ap (λ (o : Outcome). o.answer) c.read_text.ensures in
    c.written_number.ensures.fits (fits 64 c.read_text.result (omega arith) (λ k e. text_few a.n a.text.now a.codes.now k (sym answer ∙ e))) ∙ ap number answer

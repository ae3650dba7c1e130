-- The number of what `write_term` gives: a length fits in 32 bits.
use mathlib.Core.Path.{sym, ap, ◌∙◌}
use native.Mathlib.Omega.{arith}
use Rattle.model.specs.Answers.{Outcome, number}
use Rattle.model.proofs.Notation.{term_few}
use Rattle.rights.proofs.Fitting.{fits}
use Rattle.trials.proofs.trials_write_term.Goals as goal

pub returns-clause-answered : goal.returns-clause-answered
returns-clause-answered c =
    let a = c.args in
    let answer = ap (λ (o : Outcome). o.answer) c.write_term.ensures in
    c.written_number.ensures.fits (fits 190 c.write_term.result (omega arith) (λ k e. term_few a.n a.term.now a.text.now k (sym answer ∙ e))) ∙ ap number answer

-- The number of what `short_form` gives: a length fits in 32 bits.
use Rattle.std.proofs.Common.{arith, sym, ap, ◌∙◌}
use Rattle.model.specs.Answers.{Outcome, number}
use Rattle.sperner.proofs.Forms.{written_few}
use Rattle.rights.proofs.Fitting.{fits}
use Rattle.rights.proofs.rights_short_form.Goals as goal

pub returns-clause-answered : goal.returns-clause-answered
returns-clause-answered c =
    let a = c.args in
    let answer = ap (λ (o : Outcome). o.answer) c.short_form.ensures in
    c.written_number.ensures.fits (fits 3700 c.short_form.result (omega arith) (λ k e. written_few a.n a.term.now a.buffer.now k (sym answer ∙ e))) ∙ ap number answer

-- By the law of one character.
use Rattle.std.proofs.Common.{length, ap, arith}
use Rattle.std.proofs.lemmas.List.{length-take-le}
use Rattle.writing.specs.Writing.{State}
use Rattle.writing.proofs.Putting.{wrote_one}
use Rattle.writing.proofs.Writer.put.Goals as goal

pub returns : goal.returns
returns c =
    let s = c.self.inside in
    rw (← c.self.view_is) (wrote_one s.codes.now s.scratch s.to c.args.c (omega (arith, c.requires, ap (λ (w : State). length w.written) c.self.view_is, length-take-le s.to s.scratch (omega arith))))

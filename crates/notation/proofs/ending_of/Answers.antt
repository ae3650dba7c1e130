-- In each arm the character is a number, at which `last_of` computes; in the last it is a letter or none.
use Rattle.std.proofs.Common.{◌-◌, arith}
use Rattle.std.proofs.lemmas.Bool.{le-leb, lt-ltb}
use Rattle.model.specs.Terms.{codes}
use Rattle.model.specs.Texts.{term}
use Rattle.model.specs.Notation.{last_of}
use Rattle.notation.proofs.Places.{last_plain}
use Rattle.notation.proofs.ending_of.Goals as goal

pub returns-in-42 : goal.returns-in-42
unfolding last_of term codes
returns-in-42 c = rw c.in-42.is

pub returns-in-95 : goal.returns-in-95
unfolding last_of term codes
returns-in-95 c = rw c.in-95.is

pub returns-in-62 : goal.returns-in-62
unfolding last_of term codes
returns-in-62 c = rw c.in-62.is

pub returns-in-60 : goal.returns-in-60
unfolding last_of term codes
returns-in-60 c = rw c.in-60.is

pub returns-in-41 : goal.returns-in-41
unfolding last_of term codes
returns-in-41 c = rw c.in-41.is

pub returns-in-97-to-108 : goal.returns-in-97-to-108
unfolding term codes
returns-in-97-to-108 c =
    let a = c.args in
    rw (last_plain c.args.n c.args.c (λ e. omega arith) (λ e. omega arith) (λ e. omega arith) (λ e. omega arith) (λ e. omega arith), le-leb 0x61 a.c (omega arith), lt-ltb (a.c - 0x61) 12 (omega arith), lt-ltb (a.c - 0x61) a.n (omega arith))

-- The loop's invariant: the rows above j are done, the others as before.
use Rattle.words.proofs.Tallies.{WeighedFrom}
use Rattle.words.proofs.weigh.Given as goal

abbrev pub invariant-loop-j : goal.invariant-loop-j
invariant-loop-j l = WeighedFrom l.j l.k l.x l.initial.table l.table

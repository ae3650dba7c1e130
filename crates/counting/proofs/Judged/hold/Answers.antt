use Rattle.counting.proofs.Judged.hold.Goals as goal

pub returns : goal.returns
returns c = record {
  under = c.hold.ensures;
  own = rw c.term_place.ensures at c.hold-2.ensures;
  q = rw c.term_place-2.ensures at c.hold-3.ensures;
}

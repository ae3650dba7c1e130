-- The loop's invariant: the rows before row g have had the step.
use Rattle.model.specs.Live.{Numbers, breaks_counting}
use Rattle.counting.specs.Counted.{grant_in}
use Rattle.stored.specs.Stored.{of_job, Stored, Steps, under_asked}
use Rattle.stored.proofs.Storing.{UpTo}
use Rattle.stored.proofs.count.Given as goal

abbrev pub invariant-loop-g : goal.invariant-loop-g
invariant-loop-g t l =
    let a = l.asked in
    let m = breaks_counting (under_asked a) (grant_in a.ledger.now l.k) in
    (f h : Numbers) → Steps (λ x row marked y. goal.F-post t l.step x row marked tt y) a.sizes.names m f h → Stored a.sizes.names l.initial.numbers f → UpTo l.numbers (of_job a.sizes.names f) (of_job a.sizes.names h) l.g

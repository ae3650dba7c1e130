-- Each way through a loop, and each return, is a case of `part_at`, by the shape of the code (`proofs/Places.antt`).
use Rattle.std.proofs.Common.{◌≡◌, ◌+◌, ◌<◌, ◌≤◌, ℕ, length, arith, sym, ap, ◌∙◌}
use mathlib.Core.Path.{refl}
use Rattle.std.proofs.lemmas.Result.{err_from_is_err_and}
use Rattle.model.specs.Readings.{accepted}
use Rattle.terms.specs.Readings.{part_at, parts_at}
use Rattle.terms.specs.declared.Shape.{Shape}
use Rattle.terms.specs.declared.Shape.TheVariants.{Whole, One, Two, Other}
use Rattle.terms.proofs.Places.{part_end, part_whole, part_one, part_two, part_two_stop, part_quorum_short, part_quorum_refused, part_quorum, part_none, part_ahead, parts_done, parts_stop, parts_next, turn, turn_at, turn_most, turn_other}
use Rattle.terms.proofs.+read_part_read_quorum.Goals as goal

pub read_part-returns-in-Whole : goal.read_part-returns-in-Whole
read_part-returns-in-Whole t c =
    sym (part_whole c.args.codes.now c.loop-here.here c.args.n c.loop-here-test.true (sym c.shape_of.ensures ∙ c.in-Whole.is)) ∙ c.loop-here.invariant.1

pub read_part-loop-here-preserved-in-One : goal.read_part-loop-here-preserved-in-One
read_part-loop-here-preserved-in-One t c =
    (omega arith, sym (part_one c.args.codes.now c.loop-here.here c.args.n c.loop-here-test.true (sym c.shape_of.ensures ∙ c.in-One.is)) ∙ c.loop-here.invariant.1)

-- a first part of a single code, and where it ends
single_read : (t : ℕ) (c : goal.read_part-Then-single t) → part_at c.args.codes.now (c.loop-here.here + 1) c.args.n ≡ accepted (c.loop-here.here + 2)
single_read t c =
    let e : c.loop-here.here + 1 + 1 ≡ c.loop-here.here + 2 = omega arith in
    c.single.ensures c.if-single.true ∙ ap accepted e

pub read_part-loop-here-smaller-then-single : goal.read_part-loop-here-smaller-then-single
read_part-loop-here-smaller-then-single t c = omega (arith, (part_ahead c.args.codes.now (c.loop-here.here + 1) c.args.n (c.loop-here.here + 2) (single_read t c)).1)

pub read_part-loop-here-preserved-then-single : goal.read_part-loop-here-preserved-then-single
read_part-loop-here-preserved-then-single t c =
    (omega arith, sym (part_two c.args.codes.now c.loop-here.here c.args.n c.loop-here-test.true (sym c.shape_of.ensures ∙ c.in-Two.is) _ (single_read t c)) ∙ c.loop-here.invariant.1)

pub read_part-returns-in_err-here-in-Two : goal.read_part-returns-in_err-here-in-Two
read_part-returns-in_err-here-in-Two t c =
    let p = err_from_is_err_and c.from_residual.result c.from_residual.ensures.1 in
    rw (p.1, p.2)
    (sym (part_two_stop c.args.codes.now c.loop-here.here c.args.n c.loop-here-test.true (sym c.shape_of.ensures ∙ c.in-Two.is) _ (sym c.in_err-here-in-Two.ensures)) ∙ c.loop-here.invariant.1)

-- a first part that was read by itself, and where it ends
first_read : (t : ℕ) (c : goal.read_part-In_ok-here-in-Two t) → part_at c.args.codes.now (c.loop-here.here + 1) c.args.n ≡ accepted c.in_ok-here-in-Two.here
first_read t c = sym c.in_ok-here-in-Two.ensures

first_ahead : (t : ℕ) (c : goal.read_part-In_ok-here-in-Two t) → (c.loop-here.here + 1 < c.in_ok-here-in-Two.here) × (c.in_ok-here-in-Two.here ≤ length c.args.codes.now)
first_ahead t c = part_ahead c.args.codes.now (c.loop-here.here + 1) c.args.n c.in_ok-here-in-Two.here (first_read t c)

pub read_part-loop-here-smaller : goal.read_part-loop-here-smaller
read_part-loop-here-smaller t c = omega (arith, first_ahead t c)

pub read_part-loop-here-preserved : goal.read_part-loop-here-preserved
read_part-loop-here-preserved t c =
    (omega (arith, first_ahead t c), sym (part_two c.args.codes.now c.loop-here.here c.args.n c.loop-here-test.true (sym c.shape_of.ensures ∙ c.in-Two.is) _ (first_read t c)) ∙ c.loop-here.invariant.1)

pub read_part-read_quorum-requires : goal.read_part-read_quorum-requires
read_part-read_quorum-requires t c =
    (omega (arith, turn_other c.args.codes.now c.loop-here.here c.args.n c.shape_of.result c.shape_of.ensures c.in-Other.is, c.decreases), tt)

pub read_part-returns : goal.read_part-returns
read_part-returns t c = sym (part_end c.args.codes.now c.loop-here.here c.args.n c.loop-here-test.false) ∙ c.loop-here.invariant.1

pub read_quorum-returns-then-codes-at : goal.read_quorum-returns-then-codes-at
read_quorum-returns-then-codes-at t c = sym (part_end c.args.codes.now c.args.at c.args.n c.if-codes-at.true)

-- where the code is another than `read_quorum` reads, it is the turn of `read_part`
turn_told : (k : Shape) → (k ≡ Other → ⊥) → turn k ≡ 2
unfolding turn
turn_told Whole h = refl
turn_told One h = refl
turn_told Two h = refl
turn_told Other h = absurd (h refl)

pub read_quorum-read_part-requires : goal.read_quorum-read_part-requires
unfolding turn_at
read_quorum-read_part-requires t c =
    let e : turn_at c.args.codes.now c.args.at c.args.n ≡ 2 = ap turn (sym c.shape_of.ensures) ∙ turn_told c.shape_of.result c.in_default.not-Other in
    (omega (arith, e, c.decreases), tt)

pub read_quorum-returns-then-codes-at-ne50 : goal.read_quorum-returns-then-codes-at-ne50
read_quorum-returns-then-codes-at-ne50 t c =
    sym (part_none c.args.codes.now c.args.at c.args.n c.if-codes-at.false c.if-codes-at-ne50.true (sym c.shape_of.ensures ∙ c.in-Other.is))

pub read_quorum-returns-then-codes-at-lt3 : goal.read_quorum-returns-then-codes-at-lt3
read_quorum-returns-then-codes-at-lt3 t c =
    sym (part_quorum_short c.args.codes.now c.args.at c.args.n (omega arith) (omega arith) (omega arith))

pub read_quorum-returns-then-not-in_range : goal.read_quorum-returns-then-not-in_range
read_quorum-returns-then-not-in_range t c =
    sym (part_quorum_refused c.args.codes.now c.args.at c.args.n c.if-codes-at.false c.if-codes-at-ne50.false (omega arith) (sym c.in_range.ensures ∙ c.if-not-in_range.true))

pub read_quorum-loop-init : goal.read_quorum-loop-init
read_quorum-loop-init t c = (
  omega arith,
  omega arith,
  part_quorum c.args.codes.now c.args.at c.args.n c.if-codes-at.false c.if-codes-at-ne50.false (omega arith) (sym c.in_range.ensures ∙ c.if-not-in_range.false)
      ∙ ap (parts_at c.args.codes.now (c.args.at + 3) c.args.n) (omega arith),
)

pub read_quorum-read_quorum-requires : goal.read_quorum-read_quorum-requires
read_quorum-read_quorum-requires t c =
    let e = turn_other c.args.codes.now c.args.at c.args.n c.shape_of.result c.shape_of.ensures c.in-Other.is in
    (omega (arith, turn_most c.args.codes.now c.loop.next c.args.n, e, c.decreases), tt)

pub read_quorum-returns-in_err-next : goal.read_quorum-returns-in_err-next
read_quorum-returns-in_err-next t c =
    let p = err_from_is_err_and c.from_residual.result c.from_residual.ensures.1 in
    rw (p.1, p.2) (sym (c.loop.invariant.2 ∙ parts_stop c.args.codes.now c.loop.next c.args.n c.loop.invariant.1 _ _ (omega arith) (sym c.in_err-next.ensures)))

pub read_quorum-loop-preserved : goal.read_quorum-loop-preserved
read_quorum-loop-preserved t c =
    let e : part_at c.args.codes.now c.loop.next c.args.n ≡ accepted c.in_ok-next.next = sym c.in_ok-next.ensures in
    let f = part_ahead c.args.codes.now c.loop.next c.args.n c.in_ok-next.next e in
    (omega arith, f.1, c.loop.invariant.2 ∙ parts_next c.args.codes.now c.loop.next c.args.n c.loop.invariant.1 _ c.in_ok-next.next (omega arith) e ∙ ap (parts_at c.args.codes.now c.in_ok-next.next c.args.n) (omega arith))

pub read_quorum-returns : goal.read_quorum-returns
read_quorum-returns t c =
    sym (c.loop.invariant.2 ∙ ap (parts_at c.args.codes.now c.loop.next c.args.n) (omega arith) ∙ parts_done c.args.codes.now c.loop.next c.args.n c.loop.invariant.1)

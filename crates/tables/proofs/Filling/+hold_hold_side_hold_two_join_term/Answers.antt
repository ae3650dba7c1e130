use Rattle.std.proofs.Common.{rules}
use mathlib.Core.Path.{◌≡◌, sym, ◌∙◌}
use native.Mathlib.Omega.{arith}
use Prim.Native.Nat.{◌%◌}
use Rattle.words.specs.FourWords.{side_of}
use Rattle.tables.specs.Filling.{nth_row, joined_row}
use Rattle.tables.proofs.Holding.{holding_each, holding_joined, holding_last, holding_turned, holding_side, holding_other, name_rows, top_rows, bottom_rows}
use Rattle.tables.proofs.Rows.{each_weak}
use Rattle.tables.proofs.Joined.{joining_each, row_joined}
use Rattle.tables.proofs.Places.{held_at, two_first, two_last, at_end, at_name, at_top, at_bottom, at_joined, at_side, at_found, sides_same, sides_other}
use Rattle.tables.proofs.Filling.+hold_hold_side_hold_two_join_term.Goals as goal

-- ---- by the code at the place

pub hold-returns-in_default-clause-held : goal.hold-returns-in_default-clause-held
hold-returns-in_default-clause-held t c =
    held_at (at_end _ _ c.in_default.ensures.lookup.3) (holding_each _ _ _ _ _ _ (λ t g x y e. top_rows t g y (e ∙ c.same.ensures)) c.put.ensures)

pub hold-returns-in_default-clause-past : goal.hold-returns-in_default-clause-past
hold-returns-in_default-clause-past t c = sym (at_end c.args.self.now.codes.now c.args.at c.in_default.ensures.lookup.3).ends

pub hold-returns-then-code-lt12-clause-held : goal.hold-returns-then-code-lt12-clause-held
hold-returns-then-code-lt12-clause-held t c =
    let code = c.in-Some.ensures.lookup.3 in
    let here = at_name c.args.self.now.codes.now c.args.at code.0 (omega (arith, code.1 0)) in
    held_at here (rw (sym (code.1 0)) (holding_each _ _ _ _ _ _ (λ t g x y r. name_rows _ t g y r) c.put_name.ensures))

pub hold-returns-then-code-lt12-clause-past : goal.hold-returns-then-code-lt12-clause-past
hold-returns-then-code-lt12-clause-past t c =
    let code = c.in-Some.ensures.lookup.3 in
    sym (at_name c.args.self.now.codes.now c.args.at code.0 (omega (arith, code.1 0))).ends

pub hold-returns-in-Some-of-clause-held : goal.hold-returns-in-Some-of-clause-held
hold-returns-in-Some-of-clause-held t c =
    let code = c.in-Some.ensures.lookup.3 in
    held_at (at_joined _ _ code.0 _ (rw (code.1 0) at (sym c.of.ensures ∙ c.in-Some-of.is))) c.hold_two.ensures.held

pub hold-returns-in-Some-of-clause-past : goal.hold-returns-in-Some-of-clause-past
hold-returns-in-Some-of-clause-past t c =
    let code = c.in-Some.ensures.lookup.3 in
    c.hold_two.ensures.past ∙ sym (at_joined _ _ code.0 _ (rw (code.1 0) at (sym c.of.ensures ∙ c.in-Some-of.is))).ends

pub hold-returns-in-Some-side_at-clause-held : goal.hold-returns-in-Some-side_at-clause-held
hold-returns-in-Some-side_at-clause-held t c =
    let code = c.in-Some.ensures.lookup.3 in
    held_at (at_side _ _ code.0 _ (rw (code.1 0) at (sym c.side_at.ensures ∙ c.in-Some-side_at.is))) c.hold_side.ensures.held

pub hold-returns-in-Some-side_at-clause-past : goal.hold-returns-in-Some-side_at-clause-past
hold-returns-in-Some-side_at-clause-past t c =
    let code = c.in-Some.ensures.lookup.3 in
    c.hold_side.ensures.past ∙ sym (at_side _ _ code.0 _ (rw (code.1 0) at (sym c.side_at.ensures ∙ c.in-Some-side_at.is))).ends

pub hold-returns-in-32-clause-held : goal.hold-returns-in-32-clause-held
hold-returns-in-32-clause-held t c =
    let code = c.in-Some.ensures.lookup.3 in
    held_at (at_top _ _ code.0 (sym (code.1 0) ∙ c.in-32.is)) (holding_each _ _ _ _ _ _ (λ t g x y e. top_rows t g y (e ∙ c.same-in-32.ensures)) c.put-in-32.ensures)

pub hold-returns-in-32-clause-past : goal.hold-returns-in-32-clause-past
hold-returns-in-32-clause-past t c =
    let code = c.in-Some.ensures.lookup.3 in
    sym (at_top c.args.self.now.codes.now c.args.at code.0 (sym (code.1 0) ∙ c.in-32.is)).ends

pub hold-returns-in-33-clause-held : goal.hold-returns-in-33-clause-held
hold-returns-in-33-clause-held t c =
    let code = c.in-Some.ensures.lookup.3 in
    held_at (at_bottom _ _ code.0 (sym (code.1 0) ∙ c.in-33.is)) (holding_each _ _ _ _ _ _ (λ t g x y e. bottom_rows t g y (e ∙ c.same-in-33.ensures)) c.put-in-33.ensures)

pub hold-returns-in-33-clause-past : goal.hold-returns-in-33-clause-past
hold-returns-in-33-clause-past t c =
    let code = c.in-Some.ensures.lookup.3 in
    sym (at_bottom c.args.self.now.codes.now c.args.at code.0 (sym (code.1 0) ∙ c.in-33.is)).ends

-- ---- one side of a term

pub hold_side-returns-then-not-same_side-clause-held : goal.hold_side-returns-then-not-same_side-clause-held
hold_side-returns-then-not-same_side-clause-held t c =
    holding_other _ _ _ _ _ _ (sides_other c.args.of c.args.self.now.side (sym c.same_side.ensures ∙ c.if-not-same_side.true))
    (each_weak _ _ _ _ _ (λ g x y e. e ∙ c.same.ensures) c.put.ensures)

pub hold_side-returns-clause-held : goal.hold_side-returns-clause-held
hold_side-returns-clause-held t c =
    rw (sides_same c.args.of c.args.self.now.side (sym c.same_side.ensures ∙ c.if-not-same_side.false)) (holding_side _ _ _ _ _ _ c.hold-part.ensures.held)

-- ---- two terms

pub hold_two-returns-in-Some-clause-held : goal.hold_two-returns-in-Some-clause-held
hold_two-returns-in-Some-clause-held t c =
    two_first c.args.self.now.codes.now c.args.at c.args.joiner (at_found c.args.self.now.codes.now c.args.at _ (sym c.name_at.ensures ∙ c.in-Some.is))
    (holding_turned _ _ _ _ _ _ _ _ (holding_last _ _ _ _ _ _ _ _ _ c.hold-second.ensures.held (c.join_name.ensures (side_of c.args.self.now.side))))

pub hold_two-returns-in-Some-clause-past : goal.hold_two-returns-in-Some-clause-past
hold_two-returns-in-Some-clause-past t c =
    let here = at_found c.args.self.now.codes.now c.args.at c.in-Some.i (sym c.name_at.ensures ∙ c.in-Some.is) in
    rw here.ends c.hold-second.ensures.past

pub hold_two-returns-in-Some-name_at-clause-held : goal.hold_two-returns-in-Some-name_at-clause-held
hold_two-returns-in-Some-name_at-clause-held t c =
    two_last c.args.self.now.codes.now c.args.at _ c.args.joiner (at_found _ _ _ (sym c.name_at-2.ensures ∙ c.in-Some-name_at.is)) c.hold-first.ensures.past
    (holding_last _ _ _ _ _ _ _ _ _ c.hold-first.ensures.held (c.join_name-in-Some-name_at.ensures (side_of c.args.self.now.side)))

pub hold_two-returns-in-Some-name_at-clause-past : goal.hold_two-returns-in-Some-name_at-clause-past
hold_two-returns-in-Some-name_at-clause-past t c =
    let here = at_found c.args.self.now.codes.now c.hold-first.result.next c.in-Some-name_at.i (sym c.name_at-2.ensures ∙ c.in-Some-name_at.is) in
    rw (sym c.hold-first.ensures.past) (sym here.ends)

pub hold_two-returns-clause-held : goal.hold_two-returns-clause-held
hold_two-returns-clause-held t c = rw (sym c.hold-first.ensures.past) (holding_joined _ _ _ _ _ _ _ _ _ _ c.hold-first.ensures.held c.join_term-second.ensures.held)

-- the other term's rows, joined one by one
pub join_term-returns-clause-held : goal.join_term-returns-clause-held
join_term-returns-clause-held t c =
    joining_each _ _ _ _ _ _ _ _ (λ u serves f g x y l p r.
    let other = c.hold-end.new.rows in
    let small : g % 16 ≡ g = omega (arith, c.requires.1) in
    let new : y ≡ joined_row c.args.joiner x (nth_row other (g % 16)) = search rules in
    rw (new, small) (row_joined c.args.joiner g f _ x (nth_row other g) r (c.hold-end.ensures.held.row u serves g l (omega (arith, c.requires.1))))) c.each.ensures

-- Each return is a law of `proofs/Places.antt`; what was read takes as many characters as codes at least.
use Rattle.std.proofs.Common.{ℕ, suc, false, ◌≡◌, ◌+◌, ◌-◌, ◌≤◌, ◌∷◌, true, length, take, drop, get_or, reverse, sym, ◌∙◌, arith}
use lib.ListN.{length-reverse}
use Rattle.std.proofs.lemmas.List.{length-take-le, length-drop}
use Rattle.model.specs.Texts.{joiner, join_rank}
use Rattle.model.specs.Notation.{ends_in, read_back}
use Rattle.model.proofs.Texts.{part_rank}
use Rattle.terms.specs.Joiners.{kind}
use Rattle.notation.specs.Reading.{state, past, ReadOff}
use Rattle.notation.proofs.Places.{last_first, passed_less, atom_end, paid, atom_sole, sign-ended, closing_read, sign_none, atom_other, code_same, last_rank, list_none, list_alone, list_more_none, list_more, place_none, place_comma, place_open, place_other}
use Rattle.notation.proofs.Reader.+atom_last_part_list_places.Goals as goal
use Rattle.notation.proofs.Reader.+atom_last_part_list_places.Goals.{atom-In-len1-up, list-In_ok-last_part, list-Then-pass, list-In_ok-list, places-Else-pass}

pub atom-returns-in_default : goal.atom-returns-in_default
atom-returns-in_default t c = rw (← c.self.view_is) (atom_end c.self.inside.n c.self.inside.left.now c.in_default.len_below)

-- the text is its last character and what stands before that
begun : (t : ℕ) (c : atom-In-len1-up t)
    → c.args.self.now ≡ state c.self.inside.n (get_or c.self.inside.left.now (length c.self.inside.left.now - 1) 0 ∷ reverse (take (length c.self.inside.left.now - 1) c.self.inside.left.now)) (drop c.self.inside.from c.self.inside.scratch)
begun t c = sym c.self.view_is ∙ rw (last_first c.self.inside.left.now c.in-len1-up.len_at_least)

room : (t : ℕ) (c : atom-In-len1-up t) → length (reverse (take (length c.self.inside.left.now - 1) c.self.inside.left.now)) + suc (length (drop c.self.inside.from c.self.inside.scratch)) ≤ 256
room t c =
    let l = c.self.inside.left.now in
    omega (arith, length-reverse (take (length l - 1) l), length-take-le (length l - 1) l (omega arith), length-drop c.self.inside.from c.self.inside.scratch, c.self.invariant.0, c.self.invariant.1, c.self.told.1)

pub atom-returns-in_err-atom-in-Sign : goal.atom-returns-in_err-atom-in-Sign
atom-returns-in_err-atom-in-Sign t c =
    rw (c.from_residual.ensures, begun t (goal.at.atom-returns-in_err-atom-in-Sign t c).In-len1-up) (sign_none _ _ _ _ (sym c.ending_of.ensures ∙ c.in-Sign.is) c.in_err-atom-in-Sign.ensures)

pub atom-put-requires-in-Sign : goal.atom-put-requires-in-Sign
atom-put-requires-in-Sign t c =
    let p = (goal.at.atom-put-requires-in-Sign t c).In-len1-up in
    let l = c.self.inside.left.now in
    omega (arith, (paid c.self.inside.n 0 _ (reverse (take (length l - 1) l)) _ _ c.in_ok-atom-in-Sign.ensures).0, room t p)

pub atom-returns-in-Closing : goal.atom-returns-in-Closing
atom-returns-in-Closing t c =
    let p = (goal.at.atom-returns-in-Closing t c).In-len1-up in
    rw (begun t p) (closing_read c.self.inside.n _ _ _ _ (sym c.ending_of.ensures ∙ c.in-Closing.is) c.places.result c.places.ensures)

pub atom-returns-in-Other : goal.atom-returns-in-Other
atom-returns-in-Other t c = rw (begun t (goal.at.atom-returns-in-Other t c).In-len1-up) (atom_other _ _ _ (sym c.ending_of.ensures ∙ c.in-Other.is))

pub atom-returns-in-Sole : goal.atom-returns-in-Sole
atom-returns-in-Sole t c =
    let p = (goal.at.atom-returns-in-Sole t c).In-len1-up in
    rw (begun t p) (atom_sole _ _ _ _ _ _ (sym c.ending_of.ensures ∙ c.in-Sole.is) c.put.ensures (room t p))

pub atom-returns-in_ok-atom-in-Sign : goal.atom-returns-in_ok-atom-in-Sign
atom-returns-in_ok-atom-in-Sign t c =
    let p = (goal.at.atom-returns-in_ok-atom-in-Sign t c).In-len1-up in
    let l = c.self.inside.left.now in
    let r = c.in_ok-atom-in-Sign.ensures in
    rw (begun t p)
    (sign-ended c.self.inside.n _ _ _ _ _ (sym c.ending_of.ensures ∙ c.in-Sign.is) _ r c.put-in-Sign.ensures (omega (arith, (paid c.self.inside.n 0 _ (reverse (take (length l - 1) l)) _ _ r).0, room t p)))

pub list-returns-in_err-last_part : goal.list-returns-in_err-last_part
list-returns-in_err-last_part t c = rw c.from_residual.ensures (list_none (kind c.args.joiner) c.args.self.now (rw (last_rank (kind c.args.joiner)) at c.in_err-last_part.ensures))

-- the last part of the list
last_part : (t : ℕ) (c : list-In_ok-last_part t) → ReadOff (read_back c.args.self.now.n (part_rank (kind c.args.joiner)) c.args.self.now.left) c.args.self.now.n c.args.self.now.codes c.last_part.new.self
last_part t c = rw (last_rank (kind c.args.joiner)) at c.in_ok-last_part.ensures

-- the joiner is passed
joiner_passed : (t : ℕ) (c : list-Then-pass t) → ends_in (joiner (kind c.args.joiner)) c.last_part.new.self.left ≡ true
joiner_passed t c = rw c.mark.ensures at (sym c.pass.ensures.told ∙ c.if-pass.true)

passed : (t : ℕ) (c : list-Then-pass t) → c.pass.new.self ≡ past c.last_part.new.self
passed t c = c.pass.ensures.passed ∙ rw c.if-pass.true

less : (t : ℕ) (c : list-Then-pass t) → (length c.last_part.new.self.left ≡ suc (length c.pass.new.self.left)) × (length c.pass.new.self.codes ≡ length c.last_part.new.self.codes)
less t c = passed_less (joiner (kind c.args.joiner)) _ _ (joiner_passed t c) (passed t c)

pub list-list-requires : goal.list-list-requires
list-list-requires t c =
    let p = goal.at.list-list-requires t c in
    let a = c.args.self.now in
    let r = paid a.n (part_rank (kind c.args.joiner)) _ a.left _ _ (last_part t p.In_ok-last_part) in
    (omega (arith, c.decreases, r.0, r.1, (less t p.Then-pass).0), tt)

pub list-returns-in_err-list : goal.list-returns-in_err-list
list-returns-in_err-list t c =
    let p = goal.at.list-returns-in_err-list t c in
    rw c.from_residual-in_err-list.ensures
    (list_more_none (kind c.args.joiner) c.args.self.now _ (last_part t p.In_ok-last_part) (joiner_passed t p.Then-pass) _ (passed t p.Then-pass) c.in_err-list.ensures)

-- there is room for the joiner's code
joiner_room : (t : ℕ) (c : list-In_ok-list t) → length c.list.new.self.left + suc (length c.list.new.self.codes) ≤ 256
joiner_room t c =
    let p = goal.at.list-In_ok-list t c in
    let l = less t p.Then-pass in
    omega (arith, (last_part t p.In_ok-last_part).room, l.0, l.1, (paid c.pass.new.self.n (join_rank (kind c.args.joiner)) _ c.pass.new.self.left _ _ c.in_ok-list.ensures).0)

pub list-put-requires : goal.list-put-requires
list-put-requires t c = omega (arith, joiner_room t (goal.at.list-put-requires t c).In_ok-list)

pub list-returns-in_ok-list : goal.list-returns-in_ok-list
list-returns-in_ok-list t c =
    let p = goal.at.list-returns-in_ok-list t c in
    list_more (kind c.args.joiner) c.args.self.now _ (last_part t p.In_ok-last_part) (joiner_passed t p.Then-pass) _ (passed t p.Then-pass) _ _ c.in_ok-list.ensures (c.put.ensures ∙ rw (c.code.ensures, code_same c.args.joiner)) (joiner_room t p.In_ok-list)

pub list-returns-else-pass : goal.list-returns-else-pass
list-returns-else-pass t c =
    rw (c.pass.ensures.passed, c.if-pass.false)
    (list_alone (kind c.args.joiner) c.args.self.now _ (last_part t (goal.at.list-returns-else-pass t c).In_ok-last_part) (rw c.mark.ensures at (sym c.pass.ensures.told ∙ c.if-pass.false)))

pub places-returns-in_err-list : goal.places-returns-in_err-list
places-returns-in_err-list t c = rw c.from_residual.ensures (place_none c.args.many c.args.self.now c.in_err-list.ensures)

pub places-places-requires : goal.places-places-requires
places-places-requires t c =
    let a = c.args.self.now in
    let r = paid a.n 2 _ a.left _ _ c.in_ok-list.ensures in
    let l = passed_less 0x2C c.list.new.self c.pass.new.self (sym c.pass.ensures.told ∙ c.if-pass.true) (c.pass.ensures.passed ∙ rw c.if-pass.true) in
    (omega (arith, c.decreases, r.0, r.1, l.0), omega (arith, r.0, r.1, l.0, c.requires))

pub places-returns-then-pass : goal.places-returns-then-pass
places-returns-then-pass t c =
    place_comma c.args.many c.args.self.now _ c.in_ok-list.ensures (sym c.pass.ensures.told ∙ c.if-pass.true) _ _ c.places.result (c.pass.ensures.passed ∙ rw c.if-pass.true) c.places.ensures

-- no comma is passed
uncut : (t : ℕ) (c : places-Else-pass t) → (ends_in 0x2C c.list.new.self.left ≡ false) × (c.pass.new.self ≡ c.list.new.self)
uncut t c = (sym c.pass.ensures.told ∙ c.if-pass.false, c.pass.ensures.passed ∙ rw c.if-pass.false)

pub places-returns-then-not-pass : goal.places-returns-then-not-pass
places-returns-then-not-pass t c =
    let u = uncut t (goal.at.places-returns-then-not-pass t c).Else-pass in
    place_other c.args.many c.args.self.now _ c.in_ok-list.ensures u.0 (rw u.1 at (sym c.pass-2.ensures.told ∙ c.if-not-pass.true))

pub places-returns : goal.places-returns
places-returns t c =
    let u = uncut t (goal.at.places-returns t c).Else-pass in
    place_open c.args.many c.args.self.now _ c.in_ok-list.ensures u.0 (rw u.1 at (sym c.pass-2.ensures.told ∙ c.if-not-pass.false)) _ _ c.opening.result (c.pass-2.ensures.passed ∙ rw (c.if-not-pass.false, u.1)) c.opening.ensures

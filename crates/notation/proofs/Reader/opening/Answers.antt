-- Each return is a law of `proofs/Quorums.antt`.
use Rattle.std.proofs.Common.{◌≡◌, true, sym, ◌∙◌, arith}
use Rattle.model.specs.Notation.{ends_in}
use Rattle.notation.specs.Reading.{past}
use Rattle.notation.proofs.Quorums.{one_place, other-places, three, quorum_read}
use Rattle.notation.proofs.Reader.opening.Goals as goal
use Rattle.notation.proofs.Reader.opening.Goals.{Else-not-pass, In_ok-k}

pub returns-then-many-eq1 : goal.returns-then-many-eq1
returns-then-many-eq1 c =
    let e = c.in_default.ensures in
    rw e.read.1 (one_place _ c.args.self.now e.read.0 c.if-many-eq1.true e.room)

pub returns-in_default : goal.returns-in_default
returns-in_default c = other-places _ c.args.self.now c.in_default.ensures.read.0 c.if-many-eq1.false

-- the colon is passed
colon : (c : Else-not-pass) → ends_in 0x3A c.number.new.self.left ≡ true
colon c = sym c.pass.ensures.told ∙ c.if-not-pass.false

passed : (c : Else-not-pass) → c.pass.new.self ≡ past c.number.new.self
passed c = c.pass.ensures.passed ∙ rw c.if-not-pass.false

pub put-requires-3 : goal.put-requires-3
put-requires-3 c =
    let p = (goal.at.put-requires-3 c).Else-not-pass in
    let t = three c.args.many c.args.self.now _ _ _ c.in-Some.ensures.read c.if-m-many.false (colon p) (passed p) _ _ c.in_ok-k.ensures.read in
    rw (c.put-2.ensures, c.put.ensures) (omega (arith, t, c.in-Some.ensures.room))

pub returns : goal.returns
returns c =
    let p = (goal.at.returns c).Else-not-pass in
    quorum_read _ c.args.self.now _ _ _ c.in-Some.ensures.read c.if-m-many.false (colon p) (passed p) _ _ c.in_ok-k.ensures.read (sym c.in_range.ensures ∙ c.if-not-in_range.false) _
    (c.put-3.ensures ∙ rw (c.put-2.ensures, c.put.ensures)) c.in-Some.ensures.room

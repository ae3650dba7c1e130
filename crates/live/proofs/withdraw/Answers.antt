use mathlib.Core.Path.{◌≡◌, sym, ◌∙◌, subst}
use Prim.Native.Nat.{◌<◌, ◌≤◌}
use native.Mathlib.Omega.{arith}
use Rattle.model.specs.Coalitions.{Marks}
use Rattle.model.specs.Live.{breaks_counting, shrunk}
use Rattle.model.proofs.Live.{grant_there, holding_length}
use Rattle.counting.specs.Counted.{grant_in}
use Rattle.stored.specs.Stored.{more, Stored, under_asked}
use Rattle.live.proofs.Stepping.{names_asked, part_is, kept_live, asked_live, withdraw_none, held_few, gone_grant, gone_part, withdraw_done}
use Rattle.live.proofs.withdraw.Goals as goal
use Rattle.live.proofs.withdraw.Goals.{then-live-k-via-then-live-k, then-live-k-via-else-live-k+then-live-gt64}

pub returns-then-live-k-clause-stepped : goal.returns-then-live-k-clause-stepped
returns-then-live-k-clause-stepped c x h =
    let few = held_few _ _ _ c.args.k x h in
    let past : c.args.live.held ≤ c.args.k = elim c.then-live-k.branch [ then-live-k-via-then-live-k w ↦ omega (arith, w.if-live-k.true) | then-live-k-via-else-live-k+then-live-gt64 w ↦ absurd (omega (arith, w.if-live-gt64.true, few)) ] in
    withdraw_none _ _ _ _ x h past

pub returns-clause-stepped : goal.returns-clause-stepped
returns-clause-stepped c x h =
    let a = c.args in
    let below : a.k < a.live.held = omega (arith, c.if-live-k.false) in
    let t = grant_there x.grants a.k (omega (arith, h.held, holding_length h.good.blocks_read)) in
    let g = t.grant in
    let asked = c.asked-asked.result in
    let of = c.asked-asked.ensures in
    let part' : breaks_counting (under_asked asked) (grant_in asked.ledger.now a.k) ≡ breaks_counting x.asked g =
    part_is _ _ _ _ (asked_live _ _ _ x h _ _ _ of) (gone_grant _ _ _ a.k x h g t.is _ below (of.ledger_is ∙ c.part-written.ensures)) in
    let names : asked.sizes.names ≡ a.live.names = names_asked _ _ _ _ of in
    let f = (shrunk x a.k g).numbers in
    let before : Stored asked.sizes.names a.numbers.now (more f (breaks_counting x.asked g)) = rw names (gone_part _ _ _ a.k x h g t.is) in
    withdraw_done _ _ _ a.k x h g t.is _ _ below (c.remove.ensures x.blocks (kept_live _ _ _ x h) h.held below)
    (rw names at (c.count_out.ensures f (subst (λ (m : Marks). Stored asked.sizes.names a.numbers.now (more f m)) (sym part') before)))

use mathlib.Core.Path.{◌≡◌, ◌∙◌, subst}
use Prim.Native.Nat.{◌<◌}
use native.Mathlib.Omega.{arith}
use Rattle.std.proofs.lemmas.Result.{err_from_is_err_and}
use Rattle.model.specs.Coalitions.{Marks}
use Rattle.model.specs.Ledgers.{read_block}
use Rattle.model.specs.Live.{breaks_counting}
use Rattle.model.proofs.Live.{block_read}
use Rattle.refusals.proofs.Results.{Accepted, done_accepted}
use Rattle.counting.specs.Counted.{grant_in}
use Rattle.stored.specs.Stored.{more, Stored, under_asked}
use Rattle.live.proofs.Stepping.{names_asked, part_is, kept_live, stored_live, asked_live, add_refused, add_full, new_grant, add_done}
use Rattle.live.proofs.add.Goals as goal
use Rattle.live.proofs.add.Goals.{In_ok-read_block}

-- the grant of the block, where it was accepted
new : (c : In_ok-read_block) → let a = c.args in Accepted (read_block a.live.names a.block.now)
new c = done_accepted _ c.in_ok-read_block.ensures

pub returns-in_err-read_block-clause-stepped : goal.returns-in_err-read_block-clause-stepped
returns-in_err-read_block-clause-stepped c x h =
    let p = err_from_is_err_and c.from_residual.result c.from_residual.ensures.1 in
    rw (p.1, p.2) (add_refused _ _ _ _ x h _ c.in_err-read_block.ensures)

pub returns-then-live-ge64-clause-stepped : goal.returns-then-live-ge64-clause-stepped
returns-then-live-ge64-clause-stepped c x h =
    let g = new (goal.at.returns-then-live-ge64-clause-stepped c).In_ok-read_block in
    add_full _ _ _ _ x h g.value g.is (omega (arith, c.if-live-ge64.true))

pub returns-clause-stepped : goal.returns-clause-stepped
returns-clause-stepped c x h =
    let a = c.args in
    let g = new (goal.at.returns-clause-stepped c).In_ok-read_block in
    let room : a.live.held < 64 = omega (arith, c.if-live-ge64.false) in
    let rewritten = c.append.ensures x.blocks (kept_live _ _ _ x h) h.held room (block_read _ _ g.value g.is).size in
    let asked = c.asked-asked.result in
    let of = c.asked-asked.ensures in
    let part' : breaks_counting (under_asked asked) (grant_in asked.ledger.now a.live.held) ≡ breaks_counting x.asked g.value =
    part_is _ _ _ _ (asked_live _ _ _ x h _ _ _ of) (new_grant _ _ _ _ x h g.value g.is room _ rewritten _ (of.ledger_is ∙ c.part-written.ensures)) in
    let names : asked.sizes.names ≡ a.live.names = names_asked _ _ _ _ of in
    let before : Stored asked.sizes.names a.numbers.now x.numbers = rw names (stored_live _ _ _ x h) in
    add_done _ _ _ _ x h g.value g.is room _ rewritten _
    (rw names at (subst (λ (m : Marks). Stored asked.sizes.names c.count_in.new.numbers (more x.numbers m)) part' (c.count_in.ensures x.numbers before)))

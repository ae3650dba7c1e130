-- The loop's invariant: the answer for the blocks that are left is the answer for all.
use Rattle.std.proofs.Common.{◌≡◌, drop}
use Rattle.model.specs.Ledgers.{read_grants}
use Rattle.refusals.specs.Results.{done}
use Rattle.ledgers.proofs.read_grants.Given as goal

abbrev pub invariant-loop-block : goal.invariant-loop-block
invariant-loop-block l = done (read_grants l.n (drop l.block-index l.grants)) ≡ done (read_grants l.n l.grants)

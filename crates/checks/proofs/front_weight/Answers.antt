use Prim.Native.Nat.{ℕ, suc, ◌+◌, ◌*◌, ◌≤◌}
use native.Mathlib.Omega.{arith}
use mathlib.Core.Path.{refl, ◌∙◌}
use mathlib.Core.List.{List}
use lib.ListN.{drop, get_or, length-take, length-drop}
use lib.Seq.{get_or-drop}
use Rattle.checks.proofs.Columns.{sums_of, runs_of, columns, sums_more, runs_more, front_weight}
use Rattle.checks.proofs.front_weight.Goals as goal

-- bytes from a place on are bytes
bytes_from : (at : ℕ) (l : List ℕ) → ((k : ℕ) → get_or l k 0 ≤ 255) → (j : ℕ) → get_or (drop at l) j 0 ≤ 255
bytes_from at l bytes j = rw get_or-drop (bytes (at + j))

pub loop-row-init : goal.loop-row-init
loop-row-init c = unfold sums_of runs_of in record { rows = 0; place = refl; sums_are = refl; runs_are = refl }

pub add_row-requires : goal.add_row-requires
add_row-requires c =
    let l = c.loop-row in
    let i = l.invariant in
    let block = c.args.block.now in
    (rw (i.sums_are, i.runs_are) (columns 15 i.rows (drop (16 * l.row) block) (omega arith) (omega arith) (bytes_from (16 * l.row) block (λ k. omega (arith, c.fits-block k)))), simp (length-take, length-drop) (omega arith))

pub loop-row-preserved : goal.loop-row-preserved
loop-row-preserved c =
    let l = c.loop-row in
    let i = l.invariant in
    let block = c.args.block.now in
    record {
      rows = suc i.rows;
      place = omega arith;
      sums_are = c.add_row.ensures.0 ∙ sums_more i.rows l.row block l.sums l.runs (omega arith) i.sums_are i.runs_are;
      runs_are = c.add_row.ensures.1 ∙ runs_more i.rows l.row block l.sums l.runs (omega arith) i.sums_are i.runs_are;
    }

pub columns_weight-requires : goal.columns_weight-requires
columns_weight-requires c =
    let l = c.loop-row in
    let i = l.invariant in
    let block = c.args.block.now in
    rw (i.sums_are, i.runs_are) (columns 16 i.rows (drop (16 * l.row) block) (omega arith) (omega arith) (bytes_from (16 * l.row) block (λ k. omega (arith, c.fits-block k))))

pub returns : goal.returns
returns c =
    let l = c.loop-row in
    let i = l.invariant in
    c.columns_weight.ensures ∙ front_weight i.rows (16 * l.row) c.args.block.now l.sums l.runs (omega arith) (omega arith) (omega (arith, c.told-block)) i.sums_are i.runs_are

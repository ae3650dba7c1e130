use Prim.Native.Nat.{◌*◌, ◌<◌}
use native.Mathlib.Omega.{arith}
use mathlib.Core.Path.{◌≡◌, sym, ◌∙◌}
use Rattle.model.specs.Sides.{confidentiality}
use Rattle.words.specs.AnyBytes.{term_in}
use Rattle.words.specs.Evaluation.{row_count}
use Rattle.words.proofs.Names.{rows_few}
use Rattle.words.proofs.Searches.{lowest-zero}
use Rattle.questions.specs.Searching.{refuters_of}
use Rattle.questions.proofs.Refuting.{opposed_here}
use Rattle.questions.proofs.Searching.{still_rows_lem, further_is, see_still, see_clear, found_none, found_see, found_all, deciding_at}
use Rattle.questions.proofs.first_refuter.Goals as goal

pub loop-g-init : goal.loop-g-init
loop-g-init g c =
    let a = c.args in
    (omega arith, λ T k. (lowest-zero _, found_none (refuters_of a.relation a.n T (term_in a.p.now) (term_in a.q.now)), k))

pub returns-then-not-empty : goal.returns-then-not-empty
returns-then-not-empty g c T k =
    let a = c.args in
    let i = c.loop-g.invariant.1 T k in
    let R = refuters_of a.relation a.n T (term_in a.p.now) (term_in a.q.now) in
    let below : c.loop-g.g < 16 = omega (arith, c.row_count-g-end.ensures, rows_few a.n) in
    let kept = c.sift-against.ensures T _ below i.2 (still_rows_lem c.loop-g.found _ _ _ _ (opposed_here a.relation a.n _ _ c.loop-g.g _ _ _ _ _ (omega (arith, c.row_count-g-end.ensures)) c.hold.ensures c.hold-2.ensures c.rows.ensures c.rows-in-loop-g.ensures c.opposed.ensures) c.still-left.ensures) in
    let d = deciding_at a.relation a.n T (term_in a.p.now) (term_in a.q.now) c.loop-g.found c.loop-g.g _ below i.0 i.1 kept.0 in
    c.further-found.ensures
    ∙ further_is R c.loop-g.g _ c.loop-g.found below d
    ∙ found_see R c.loop-g.g _ (256 * row_count a.n) (see_still R c.loop-g.found c.loop-g.g _ (d.rows.row confidentiality)) (sym c.empty.ensures ∙ c.if-not-empty.true) (omega (arith, c.row_count-g-end.ensures))
    ∙ found_all a.relation a.n _ _ _

pub loop-g-preserved : goal.loop-g-preserved
loop-g-preserved g c =
    let a = c.args in (
      omega (arith, c.row_count-g-end.ensures),
      λ T k.
          let i = c.loop-g.invariant.1 T k in
          let R = refuters_of a.relation a.n T (term_in a.p.now) (term_in a.q.now) in
          let below : c.loop-g.g < 16 = omega (arith, c.row_count-g-end.ensures, rows_few a.n) in
          let kept = c.sift-against.ensures T _ below i.2 (still_rows_lem c.loop-g.found _ _ _ _ (opposed_here a.relation a.n _ _ c.loop-g.g _ _ _ _ _ (omega (arith, c.row_count-g-end.ensures)) c.hold.ensures c.hold-2.ensures c.rows.ensures c.rows-in-loop-g.ensures c.opposed.ensures) c.still-left.ensures) in
          let d = deciding_at a.relation a.n T (term_in a.p.now) (term_in a.q.now) c.loop-g.found c.loop-g.g _ below i.0 i.1 kept.0 in (
            see_clear R c.loop-g.g _ i.0 (see_still R c.loop-g.found c.loop-g.g _ (d.rows.row confidentiality)) (sym c.empty.ensures ∙ c.if-not-empty.false),
            c.further-found.ensures ∙ further_is R c.loop-g.g _ c.loop-g.found below d,
            kept.1,
          ),
    )

pub returns : goal.returns
returns g c T k =
    let a = c.args in
    let end : c.loop-g.g ≡ row_count a.n = omega (arith, c.row_count-g-end.ensures) in
    (c.loop-g.invariant.1 T k).1 ∙ rw end (found_all a.relation a.n T (term_in a.p.now) (term_in a.q.now))

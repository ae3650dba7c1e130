-- What is sifted by the grants that count, and what is known of them.
use native.Mathlib.Omega.{arith}
use mathlib.Core.Path.{◌≡◌, refl, sym, ◌∙◌, subst}
use Rattle.model.specs.Coalitions.{Marks}
use Rattle.counting.specs.declared.Asked.{Asked}
use Rattle.counting.specs.Counted.{grant_in}
use Rattle.soundness.proofs.Steps.{keep_none, keep_empty}
use Rattle.questions.specs.Sieving.{SiftedTo, counts_asked}
use Rattle.questions.proofs.Sifting.{keep_if, sift_more, sifted_sound}
use Rattle.questions.proofs.GrantsSieve.sift.Goals as goal

pub loop-k-init : goal.loop-k-init
loop-k-init c = (refl, omega arith, λ b f h. record { rows = keep_none _ _ f _ _ h.rows; so = h.so })

pub returns-then-none : goal.returns-then-none
returns-then-none c S f low k h =
    let i = c.loop-k.invariant in
    let s = i.2 k.few f (record { rows = h; so = k.so }) in
    sifted_sound _ _ S f _ _ _ k _ i.0 (record { rows = keep_empty _ _ f _ _ _ _ i.1 s.rows (sym c.none.ensures ∙ c.if-none.true); so = s.so })

pub loop-k-preserved : goal.loop-k-preserved
loop-k-preserved c =
    let i = c.loop-k.invariant in
    let k = c.loop-k.k in
    let left = c.sift_grant-left in (
      left.ensures.asked ∙ i.0,
      omega arith,
      λ b f h. sift_more _ _ _ _ _ _ f _ _ _ b (omega arith)
          (subst (λ (a : Asked). (m : Marks) → SiftedTo (counts_asked a) m c.args.g c.loop-k.self.known c.loop-k.left → SiftedTo (counts_asked a) (keep_if (counts_asked a k) m (grant_in a.ledger.now k)) c.args.g left.new.self.known left.result)
          i.0 (left.ensures.sifted (omega arith)) _ (i.2 b f h)),
    )

pub returns : goal.returns
returns c S f low k h =
    let i = c.loop-k.invariant in
    let e : c.loop-k.k ≡ c.args.self.now.asked.sizes.grants = omega arith in
    sifted_sound _ _ S f _ _ _ k _ i.0 (rw e at (i.2 k.few f (record { rows = h; so = k.so })))

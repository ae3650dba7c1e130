use mathlib.Core.Path.{◌≡◌, sym, ap, ◌∙◌}
use Prim.Native.Nat.{◌%◌}
use native.Mathlib.Omega.{arith}
use mathlib.Core.Bool.{◌&&◌}
use Rattle.model.specs.Sides.{confidentiality, integrity}
use Rattle.words.proofs.FourWords.{rows_of, rows_cong}
use Rattle.stored.specs.Stored.{of_job}
use Rattle.stored.proofs.Storing.{job_small, sound_none}
use Rattle.stored.proofs.ZerosSieve.sift.Goals as goal

pub returns-then-none : goal.returns-then-none
returns-then-none c S m low k r = (sound_none _ m S _ r (sym c.none.ensures ∙ c.if-none.true), k)

pub returns : goal.returns
returns c S m low k r =
    let same : c.args.g % 16 ≡ c.args.g = omega arith in
    let f = of_job k.names k.numbers in (
      rows_cong _ _ _ _ (λ s c _ _. ap (λ b. m s c && b) (sym (k.is s c)))
          (rows_of _ _ _ _
          ((rw same at c.unbroken.ensures) _ (f confidentiality) (m confidentiality) record { digits = k.stored.row confidentiality _ low; small = λ d _ _. job_small k.names k.numbers k.small confidentiality d } (r.row confidentiality))
          ((rw same at c.unbroken-2.ensures) _ (f integrity) (m integrity) record { digits = k.stored.row integrity _ low; small = λ d _ _. job_small k.names k.numbers k.small integrity d } (r.row integrity))),
      k,
    )

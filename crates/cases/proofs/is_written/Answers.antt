-- The buffer is its front and its rest.
use Rattle.std.proofs.Common.{◌≡◌, ◌∙◌, ◌++◌, ℕ, ◌-◌, length, replicate, refl, sym, ap, arith, rules, true, false, List, take, drop, Bool}
use mathlib.Core.Path.{ap₂}
use mathlib.Core.Bool.{true≢false}
use denote.Ref.{Bor}
use lib.Dec.{eqb}
use lib.Pointwise.{pointwise}
use Prim.Native.Nat.{◌+◌}
use Rattle.std.specs.Prelude.{Option, None, Some}
use Rattle.std.specs.Option.{MatchOption}
use Rattle.std.proofs.lemmas.List.{take-append-drop}
use Rattle.std.proofs.lemmas.Bool.Decides.{Decides-eqb}
use Rattle.std.proofs.lemmas.Slice.Eq.{slice_eq-Decides}
use Rattle.cases.proofs.is_written.Goals as goal

module _ (buffer expected : List ℕ) (b : ℕ) (r : Bool) (Post : Bor (List ℕ) → Type 0) (filled : (x : Bor (List ℕ)) → Post x → r ≡ true → x.now ≡ replicate (length x.now) b) where
  written : (o : Option (Bor (List ℕ)))
      → MatchOption o (pointwise eqb (take (length expected) buffer) expected ≡ false) (λ x. (pointwise eqb (take (length expected) buffer) expected ≡ true) × (x.now ≡ drop (length expected) buffer) × (length x.now + length expected ≡ length buffer))
      → MatchOption o (r ≡ false) Post → r ≡ true → buffer ≡ expected ++ replicate (length buffer - length expected) b
  written None e p t = absurd (true≢false (sym t ∙ p))
  written (Some x) e p t =
      let n : length x.now ≡ length buffer - length expected = omega (arith, e.2) in
      sym (take-append-drop (length expected) buffer)
      ∙ ap₂ ◌++◌ ((slice_eq-Decides Decides-eqb _ _ _ (sym e.0)).0 refl) (sym e.1 ∙ filled x p t ∙ ap (λ (k : ℕ). replicate k b) n)

pub returns : goal.returns
returns c t = written _ _ _ _ _ (λ x p t. search rules) c.strip_prefix.result c.strip_prefix.ensures.cases c.is_some_and.ensures t

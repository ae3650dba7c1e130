-- Laws of one list after another written, and of the room for them. Assumes nothing.
use Prim.Native.Nat.{ℕ, ◌+◌, ◌<◌, ◌≤◌}
use native.Mathlib.Omega.{arith}
use mathlib.Core.Path.{◌≡◌, refl, ◌∙◌}
use mathlib.Core.List.{List, [], ◌∷◌, ◌++◌, append_assoc, append-nil}
use lib.ListN.{length, take, set, length-append}
use Rattle.std.proofs.lemmas.List.{take_more_set}
use Rattle.writing.specs.Writing.{State, state, wrote}

-- nothing, and one character
pub wrote_none : (s : State) → s ≡ wrote s s.codes []
wrote_none s = rw (append-nil s.written) refl

pub wrote_one : (codes d : List ℕ) (to c : ℕ) → to < length d → state codes (take (to + 1) (set d to c)) ≡ wrote (state codes (take to d)) codes (c ∷ [])
wrote_one codes d to c h = rw (take_more_set d to c h) refl

-- one list after another: what the second is, and the codes it leaves, is told by the codes that the first left
module _ (before mid : State) (cs f : List ℕ) (p : mid ≡ wrote before cs f) (left more : List ℕ → List ℕ) where
  pub wrote_both : (after : State) → after ≡ wrote mid (left mid.codes) (more mid.codes) → after ≡ wrote before (left cs) (f ++ more cs)
  wrote_both after q = q ∙ rw (p, append_assoc before.written f (more cs)) refl

  pub room_after : (r : ℕ) → length before.written + length (f ++ more cs) ≤ r → length mid.written + length (more mid.codes) ≤ r
  room_after r h = rw p (omega (arith, h, length-append f (more cs), length-append before.written f))

-- what fits with more after it fits
pub front : (n : ℕ) (f g : List ℕ) (r : ℕ) → n + length (f ++ g) ≤ r → n + length f ≤ r
front n f g r h = omega (arith, h, length-append f g)

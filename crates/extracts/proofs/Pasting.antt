-- Laws of bytes written into a list one by one: the library's `paste`. Assumes nothing.
use mathlib.Core.Path.{◌≡◌, sym, ap, ap₂, ◌∙◌}
use mathlib.Core.List.{List, ◌++◌}
use Prim.Native.Nat.{ℕ, ◌+◌, ◌≤◌}
use native.Mathlib.Nat.{le_of_eq}
use lib.ListN.{length, drop}
use lib.Seq.{paste, length-paste, take_at, take_all, drop-append-add}

-- the list stays as long as it was
pub paste_long : (d₀ d : List ℕ) (at k : ℕ) (s : List ℕ) → at + k ≤ length d₀ → k ≤ length s → d ≡ paste d₀ at s k → length d ≡ length d₀
paste_long d₀ d at k s h l i = ap length i ∙ length-paste d₀ at s k h l

-- b bytes written after the first a of a list
pub paste_after : (x y new : List ℕ) (a b : ℕ) → length x ≡ a → length new ≡ b → paste (x ++ y) a new b ≡ (x ++ new) ++ drop b y
paste_after x y new a b h k =
    ap₂ (λ (l m : List ℕ). l ++ m)
    (ap₂ (λ (l m : List ℕ). l ++ m) (take_at x y a h) (take_all b new (le_of_eq k)))
    (ap (λ (i : ℕ). drop (i + b) (x ++ y)) (sym h) ∙ drop-append-add x y b)

-- The coalitions of n names, laid out in chains: each is in exactly one, since counting chain by chain counts every coalition once. A chain has its
-- largest coalition first. Assumes nothing.
use mathlib.Core.Path.{◌≡◌, refl, sym, ap, ap₂, ◌∙◌}
use Prim.Native.Nat.{ℕ, zero, suc, ◌+◌, ◌^◌}
use native.Mathlib.Omega.{arith}
use mathlib.Core.Bool.{Bool}
use mathlib.Core.List.{List, [], ◌∷◌}
use Rattle.model.specs.Coalitions.{bit, those}
use Rattle.sperner.proofs.Counts.{count, count-suc, count_double}

-- each coalition of a chain with the name more that is worth m
unfoldable pub raise : ℕ → List ℕ → List ℕ
raise m [] = []
raise m (c ∷ l) = (m + c) ∷ raise m l

-- a chain in front of others, unless it is empty
abbrev pub unless_empty : List ℕ → List (List ℕ) → List (List ℕ)
unless_empty [] cs = cs
unless_empty (c ∷ l) cs = (c ∷ l) ∷ cs

-- A chain gives two of one name more: itself with its largest coalition raised in front, and the others raised.
unfoldable pub grow : ℕ → List (List ℕ) → List (List ℕ)
grow m [] = []
grow m ([] ∷ cs) = grow m cs
grow m ((c ∷ l) ∷ cs) = ((m + c) ∷ c ∷ l) ∷ unless_empty (raise m l) (grow m cs)

unfoldable pub chains : ℕ → List (List ℕ)
chains zero = (0 ∷ []) ∷ []
chains (suc n) = grow (2 ^ n) (chains n)

-- how many coalitions of a chain are of f, and of all chains
unfoldable pub hits : (ℕ → Bool) → List ℕ → ℕ
hits f [] = 0
hits f (c ∷ l) = bit (f c) + hits f l

unfoldable pub total : (ℕ → Bool) → List (List ℕ) → ℕ
total f [] = 0
total f (l ∷ cs) = hits f l + total f cs

hits_raise : (f : ℕ → Bool) (m : ℕ) (l : List ℕ) → hits f (raise m l) ≡ hits (λ c. f (m + c)) l
unfolding hits raise
hits_raise f m [] = refl
hits_raise f m (c ∷ l) = ap (λ (x : ℕ). bit (f (m + c)) + x) (hits_raise f m l)

total_unless : (f : ℕ → Bool) (l : List ℕ) (cs : List (List ℕ)) → total f (unless_empty l cs) ≡ hits f l + total f cs
unfolding total hits
total_unless f [] cs = omega arith
total_unless f (c ∷ l) cs = refl

total_grow : (f : ℕ → Bool) (m : ℕ) (cs : List (List ℕ)) → total f (grow m cs) ≡ total f cs + total (λ c. f (m + c)) cs
unfolding total hits grow
total_grow f m [] = refl
total_grow f m ([] ∷ cs) = omega (arith, total_grow f m cs)
total_grow f m ((c ∷ l) ∷ cs) = omega (arith, total_grow f m cs, total_unless f (raise m l) (grow m cs), hits_raise f m l)

count_one : (f : ℕ → Bool) → count f 1 ≡ total f ((0 ∷ []) ∷ [])
unfolding those total hits
count_one f = count-suc f 0 ∙ omega arith

-- counting chain by chain counts all
pub count_chains : (f : ℕ → Bool) (n : ℕ) → count f (2 ^ n) ≡ total f (chains n)
unfolding chains
count_chains f zero = count_one f
count_chains f (suc n) =
    count_double f n ∙ ap₂ (λ (x y : ℕ). x + y) (count_chains f n) (count_chains (λ c. f (2 ^ n + c)) n)
    ∙ sym (total_grow f (2 ^ n) (chains n))

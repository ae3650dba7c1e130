-- How many coalitions have k members, and which layer is the largest. Assumes nothing.
use mathlib.Core.Path.{◌≡◌, refl, ap, ◌∙◌}
use Prim.Native.Nat.{ℕ, zero, suc, ◌+◌, ◌/◌, ◌^◌, ◌≤◌}
use native.Mathlib.Nat.{le_antisymm}
use native.Mathlib.Decide.{le_ind}
use native.Mathlib.Omega.{arith}
use mathlib.Core.Bool.{Bool}
use lib.Dec.{eqb}
use lib.ListN.{length}
use borrow.Author.Tests.{ne_eqb, eq-eqb, eqb-true}
use Rattle.model.specs.Coalitions.{those}
use Rattle.model.specs.Layers.{size, layer, largest_layer}
use Rattle.model.proofs.Listed.{those_none}
use Rattle.model.proofs.Truth.{bool_ext}
use Rattle.model.proofs.Largest.{largest_least, largest_above}
use Rattle.sperner.specs.Antichains.{choose, LayersAreBinomial, MiddleLayerIsLargest, TwelveNames}
use Rattle.sperner.proofs.Counts.{count, count_double, count_cong}
use Rattle.sperner.proofs.Chains.{count_chains}
use Rattle.sperner.proofs.Sizes.{of_size, Apart, size-without, size_with, one_size_apart}
use Rattle.sperner.proofs.Links.{all_chains, apart_most, middle_met}

-- ---- Pascal's rule

suc-size : (a k : ℕ) → eqb (suc a) (suc k) ≡ eqb a k
suc-size a k = bool_ext (eqb (suc a) (suc k)) (eqb a k)
    (λ e. eq-eqb a k (let q = eqb-true (suc a) (suc k) e in omega arith))
    (λ e. eq-eqb (suc a) (suc k) (let q = eqb-true a k e in omega arith))

-- of the coalitions with k members, those without the last name and those with it
layer_halves : (n k : ℕ) → layer (suc n) k ≡ layer n k + count (λ c. of_size (suc n) k (2 ^ n + c)) (2 ^ n)
unfolding layer
layer_halves n k =
    count_double (of_size (suc n) k) n
    ∙ ap (λ (x : ℕ). x + count (λ c. of_size (suc n) k (2 ^ n + c)) (2 ^ n))
    (count_cong (of_size (suc n) k) (of_size n k) (2 ^ n) (λ c l. ap (λ (s : ℕ). eqb s k) (size-without n c l)))

layer_with : (n k : ℕ) → count (λ c. of_size (suc n) (suc k) (2 ^ n + c)) (2 ^ n) ≡ layer n k
unfolding layer
layer_with n k =
    count_cong (λ c. of_size (suc n) (suc k) (2 ^ n + c)) (of_size n k) (2 ^ n)
    (λ c l. ap (λ (s : ℕ). eqb s (suc k)) (size_with n c l) ∙ suc-size (size n c) k)

layer_none : (n : ℕ) → count (λ c. of_size (suc n) 0 (2 ^ n + c)) (2 ^ n) ≡ 0
layer_none n = ap length (those_none (λ c. of_size (suc n) 0 (2 ^ n + c)) 0 (2 ^ n) (λ c l m.
    ne_eqb (size (suc n) (2 ^ n + c)) 0 (λ e. omega (arith, size_with n c (omega arith)))))

pub layers_are_binomial : LayersAreBinomial
unfolding layer choose size those
layers_are_binomial zero zero = refl
layers_are_binomial zero (suc k) = rw (ne_eqb 0 (suc k) (λ e. omega arith))
layers_are_binomial (suc n) zero = omega (arith, layer_halves n 0, layer_none n, layers_are_binomial n zero)
layers_are_binomial (suc n) (suc k) = omega (arith, layer_halves n (suc k), layer_with n k, layers_are_binomial n (suc k), layers_are_binomial n k)

-- ---- the middle layer

-- A set in which none is inside another has at most one coalition of each chain, and the middle layer at least one.
pub apart_few : (n : ℕ) (f : ℕ → Bool) → Apart n f → count f (2 ^ n) ≤ layer n (n / 2)
unfolding layer
apart_few n f apart =
    omega (arith, count_chains f n, apart_most n f apart (all_chains n), middle_met n (all_chains n), count_chains (of_size n (n / 2)) n)

pub largest_middle : (n : ℕ) → largest_layer n ≡ layer n (n / 2)
unfolding largest_layer
largest_middle n =
    le_antisymm (largest_least (layer n) (suc n) (layer n (n / 2)) (λ k l. layer_few k)) (largest_above (layer n) (suc n) (n / 2) (omega arith))
  where
    layer_few : (k : ℕ) → layer n k ≤ layer n (n / 2)
    layer_few k = unfold layer in apart_few n (of_size n k) (one_size_apart n k)

pub middle_layer_is_largest : MiddleLayerIsLargest
middle_layer_is_largest n = largest_middle n ∙ layers_are_binomial n (n / 2)

-- ---- twelve names

largest-more : (n : ℕ) → largest_layer n ≤ largest_layer (suc n)
largest-more n =
    omega (arith, largest_middle n, layer_halves n (n / 2), reached)
  where
    reached : layer (suc n) (n / 2) ≤ largest_layer (suc n)
    reached = unfold largest_layer in largest_above (layer (suc n)) (suc (suc n)) (n / 2) (omega arith)

pub twelve_names : TwelveNames
unfolding choose
twelve_names = record {
  twelve = middle_layer_is_largest 12;
  fewer = λ n h. omega (arith, middle_layer_is_largest 12, up n 12 h);
}
  where
    up : (n m : ℕ) → n ≤ m → largest_layer n ≤ largest_layer m
    up n = le_ind (λ (m : ℕ). largest_layer n ≤ largest_layer m) (omega arith) (λ m h e. omega (arith, e, largest-more m))

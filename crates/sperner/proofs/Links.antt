-- Each chain of n names goes down by one member at a time, each coalition within the one before, from a size h to a size k with h + k = n. So it has a
-- coalition of half of the names, and at most one of a set in which none is inside another. Assumes nothing.
use mathlib.Core.Path.{◌≡◌, refl, ap, ◌∙◌}
use mathlib.Core.Logic.{◌⊎◌, inl, inr}
use Prim.Native.Nat.{ℕ, zero, suc, ◌+◌, ◌/◌, ◌^◌, ◌≤◌, ◌<◌}
use native.Mathlib.Decide.{ℕ_discrete}
use native.Mathlib.Omega.{arith}
use mathlib.Core.Bool.{Bool, true, false}
use mathlib.Core.List.{List, [], ◌∷◌}
use lib.ListN.{length}
use borrow.Author.Tests.{eq-eqb}
use Rattle.model.specs.Coalitions.{bit, those}
use Rattle.model.specs.Layers.{size}
use Rattle.model.specs.Meanings.{Subset}
use Rattle.model.proofs.Packed.{bit_lt}
use Rattle.model.proofs.Truth.{decide, false_of}
use Rattle.sperner.proofs.Sizes.{of_size, Apart, size-without, without_below, with_below, size_with, subset_with, subset_without, subset_both}
use Rattle.sperner.proofs.Chains.{raise, unless_empty, grow, chains, hits, total}

-- sizes from h down to k; the largest coalition, and the others
pub data Chain (n : ℕ) : ℕ → ℕ → ℕ → List ℕ → Type 0 where
  lone : {k c : ℕ} → c < 2 ^ n → size n c ≡ k → Chain n k k c []
  link : {h k c d : ℕ} {l : List ℕ} → c < 2 ^ n → size n c ≡ suc h → Subset n d c → Chain n h k d l → Chain n (suc h) k c (d ∷ l)

chain_below : {n h k c : ℕ} {l : List ℕ} → Chain n h k c l → c < 2 ^ n
chain_below (lone b s) = b
chain_below (link b s i r) = b

chain_size : {n h k c : ℕ} {l : List ℕ} → Chain n h k c l → size n c ≡ h
chain_size (lone b s) = s
chain_size (link b s i r) = s

chain_order : {n h k c : ℕ} {l : List ℕ} → Chain n h k c l → k ≤ h
chain_order (lone b s) = omega arith
chain_order (link b s i r) = let o = chain_order r in omega arith

-- ---- one name more

widen : {n h k c : ℕ} {l : List ℕ} → Chain n h k c l → Chain (suc n) h k c l
widen {n} (lone {c = c} b s) = lone (without_below n c b) (size-without n c b ∙ s)
widen {n} (link {c = c} {d = d} b s i r) = link (without_below n c b) (size-without n c b ∙ s) (subset_without n d c (chain_below r) i) (widen r)

raised : {n h k c : ℕ} {l : List ℕ} → Chain n h k c l → Chain (suc n) (suc h) (suc k) (2 ^ n + c) (raise (2 ^ n) l)
unfolding raise
raised {n} (lone {c = c} b s) = lone (with_below n c b) (size_with n c b ∙ ap suc s)
raised {n} (link {c = c} {d = d} b s i r) = link (with_below n c b) (size_with n c b ∙ ap suc s) (subset_both n d c (chain_below r) b i) (raised r)

topped : {n h k c : ℕ} {l : List ℕ} → Chain n h k c l → Chain (suc n) (suc h) k (2 ^ n + c) (c ∷ l)
topped {n} {c = c} r = link (with_below n c (chain_below r)) (size_with n c (chain_below r) ∙ ap suc (chain_size r)) (subset_with n c (chain_below r)) (widen r)

-- ---- all chains

pub record Symmetric (n c : ℕ) (l : List ℕ) : Type 0 where
  pub high : ℕ
  pub low : ℕ
  pub chain : Chain n high low c l
  pub whole : high + low ≡ n

pub data Chains (n : ℕ) : List (List ℕ) → Type 0 where
  none : Chains n []
  also : {c : ℕ} {l : List ℕ} {cs : List (List ℕ)} → Symmetric n c l → Chains n cs → Chains n ((c ∷ l) ∷ cs)

first_grown : {n c : ℕ} {l : List ℕ} → Symmetric n c l → Symmetric (suc n) (2 ^ n + c) (c ∷ l)
first_grown s = record { high = suc s.high; low = s.low; chain = topped s.chain; whole = let w = s.whole in omega arith }

second_grown : {n h k c : ℕ} {l : List ℕ} {cs : List (List ℕ)} → Chain n h k c l → h + k ≡ n → Chains (suc n) cs → Chains (suc n) (unless_empty (raise (2 ^ n) l) cs)
unfolding raise
second_grown (lone b s) w r = r
second_grown (link {h = h} {k = k} b s i t) w r = also (record { high = suc h; low = suc k; chain = raised t; whole = omega arith }) r

all_grown : {n : ℕ} {cs : List (List ℕ)} → Chains n cs → Chains (suc n) (grow (2 ^ n) cs)
unfolding grow
all_grown none = none
all_grown (also s r) = also (first_grown s) (second_grown s.chain s.whole (all_grown r))

pub all_chains : (n : ℕ) → Chains n (chains n)
unfolding chains size those
all_chains zero = also (record { high = 0; low = 0; chain = lone {c = 0} (omega arith) refl; whole = refl }) none
all_chains (suc n) = all_grown (all_chains n)

-- ---- at least one coalition of each size between

size_met : {n h k c : ℕ} {l : List ℕ} (j : ℕ) → k ≤ j → j ≤ h → Chain n h k c l → 1 ≤ hits (of_size n j) (c ∷ l)
unfolding hits
size_met {n} j o p (lone {c = c} b s) = let here = ap bit (eq-eqb (size n c) j (omega arith)) in omega arith
size_met {n} j o p (link {c = c} b s i r) = elim (ℕ_discrete (size n c) j) [
  | yes e ↦ (let here = ap bit (eq-eqb (size n c) j e) in omega arith)
  | no q ↦ (let below = size_met j o (omega arith) r in omega arith)
]

pub middle_met : (n : ℕ) {cs : List (List ℕ)} → Chains n cs → length cs ≤ total (of_size n (n / 2)) cs
unfolding total
middle_met n none = omega arith
middle_met n (also s r) =
    let w = s.whole in
    let o = chain_order s.chain in
    omega (arith, size_met (n / 2) (omega arith) (omega arith) s.chain, middle_met n r)

-- ---- at most one of a set in which none is inside another

module _ (n : ℕ) (f : ℕ → Bool) (apart : Apart n f) where
  -- none below one of f
  none_under : {h k d : ℕ} {l : List ℕ} (c : ℕ) → c < 2 ^ n → f c ≡ true → h < size n c → Subset n d c → Chain n h k d l → hits f (d ∷ l) ≡ 0
  unfolding hits
  none_under c m t o i (lone {c = d} b s) = let out = ap bit (false_of (f d) (λ e. omega (arith, ap (size n) (apart d c b m e t i)))) in omega arith
  none_under c m t o i (link {c = d} b s j r) =
      let out = ap bit (false_of (f d) (λ e. omega (arith, ap (size n) (apart d c b m e t i)))) in
      let under = none_under c m t (omega arith) (λ x l e. i x l (j x l e)) r in
      omega arith

  most_one : {h k c : ℕ} {l : List ℕ} → Chain n h k c l → hits f (c ∷ l) ≤ 1
  unfolding hits
  most_one (lone {c = c} b s) = omega (arith, bit_lt (f c))
  most_one (link {c = c} {d = d} {l = l} b s i r) = go (decide (f c)) (most_one r)
    where
      go : (f c ≡ true) ⊎ (f c ≡ false) → hits f (d ∷ l) ≤ 1 → hits f (c ∷ d ∷ l) ≤ 1
      go (inl e) m = omega (arith, ap bit e, none_under c b e (omega arith) i r)
      go (inr e) m = omega (arith, ap bit e)

  pub apart_most : {cs : List (List ℕ)} → Chains n cs → total f cs ≤ length cs
  unfolding total
  apart_most none = omega arith
  apart_most (also s r) = omega (arith, most_one s.chain, apart_most r)

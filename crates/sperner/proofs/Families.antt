-- Families of coalitions as lists: such a list is a set in which none is inside another, and such a set makes such a list. Assumes nothing.
use mathlib.Core.Path.{◌≡◌, sym, ap, ap₂, ◌∙◌}
use mathlib.Core.Logic.{◌⊎◌, inl, inr}
use Prim.Native.Nat.{ℕ, zero, suc, ◌/◌, ◌^◌, ◌≤◌, ◌<◌}
use native.Mathlib.Decide.{ℕ_discrete}
use native.Mathlib.Omega.{arith}
use mathlib.Core.Bool.{Bool, true, false, ◌||◌, false≢true}
use mathlib.Core.List.{List, [], ◌∷◌}
use lib.Dec.{eqb}
use lib.ListN.{length, get_or}
use borrow.Author.Tests.{eqb-true, eq-eqb, ne_eqb}
use Rattle.model.specs.Coalitions.{bit, proper_subset, those}
use Rattle.model.specs.Layers.{layer}
use Rattle.model.specs.Meanings.{Subset}
use Rattle.model.proofs.Monotone.{proper_says}
use Rattle.model.proofs.Truth.{clash, false_of, or_elim, lt_or_ge, below_suc}
use Rattle.sperner.specs.Antichains.{Antichain, SpernersBound, BoundReached}
use Rattle.sperner.proofs.Counts.{count, count-suc, count_cong, nth, nth_there, nth_ascends}
use Rattle.sperner.proofs.Sizes.{of_size, Apart, one_size_apart}
use Rattle.sperner.proofs.Layers.{apart_few, largest_middle}

-- ---- from a list to a set

-- one number more of a set
count-more : (f : ℕ → Bool) (x k : ℕ) → f x ≡ false → x < k → count (λ c. eqb c x || f c) k ≡ suc (count f k)
count-more f x zero e h = absurd (omega arith)
count-more f x (suc k) e h = go (below_suc h) (count-more f x k e)
  where
    g : ℕ → Bool
    g c = eqb c x || f c

    go : (x < k) ⊎ (x ≡ k) → (x < k → count g k ≡ suc (count f k)) → count g (suc k) ≡ suc (count f (suc k))
    go (inl l) more =
        let same : bit (g k) ≡ bit (f k) = ap (λ (b : Bool). bit (b || f k)) (ne_eqb k x (λ q. omega arith)) in
        omega (arith, count-suc g k, count-suc f k, more l)
    go (inr q) more =
        let here : bit (g k) ≡ 1 = ap (λ (b : Bool). bit (b || f k)) (eq-eqb k x (sym q)) in
        let gone : bit (f k) ≡ 0 = ap bit (ap f (sym q) ∙ e) in
        let before : count g k ≡ count f k = count_cong g f k (λ c l. ap (λ (b : Bool). b || f c) (ne_eqb c x (λ p. omega arith))) in
        omega (arith, count-suc g k, count-suc f k)

-- the numbers of a list
is_in : List ℕ → ℕ → Bool
is_in [] c = false
is_in (x ∷ l) c = eqb c x || is_in l c

found : (l : List ℕ) (c : ℕ) → is_in l c ≡ true → (i : ℕ) × (i < length l) × (get_or l i 0 ≡ c)
unfolding is_in
found [] c e = absurd (false≢true e)
found (x ∷ l) c e = or_elim (eqb c x) (is_in l c)
    (λ q. (0, omega arith, sym (eqb-true c x q)))
    (λ q. let w = found l c q in (suc w.0, omega (arith, w.1), w.2)) e

-- no two are alike, so they are no fewer than the list is long
members_few : (k : ℕ) (l : List ℕ) → ((i : ℕ) → i < length l → get_or l i 0 < k)
    → ((i j : ℕ) → i < length l → j < length l → get_or l i 0 ≡ get_or l j 0 → i ≡ j) → length l ≤ count (is_in l) k
unfolding is_in
members_few k [] below distinct = omega arith
members_few k (x ∷ l) below distinct =
    omega (
      arith,
      count-more (is_in l) x k out (below 0 (omega arith)),
      members_few k l (λ i h. below (suc i) (omega arith)) (λ i j h m e. let q = distinct (suc i) (suc j) (omega arith) (omega arith) e in omega arith),
    )
  where
    out : is_in l x ≡ false
    out = false_of (is_in l x) (λ e. let w = found l x e in let z = distinct 0 (suc w.0) (omega arith) (omega (arith, w.1)) (sym w.2) in omega arith)

-- a coalition that is within another and not inside it is the other
pub not_inside : (n b c : ℕ) → proper_subset n b c ≡ false → Subset n b c → b ≡ c
not_inside n b c e s = elim (ℕ_discrete b c) [
  | yes q ↦ q
  | no d ↦ absurd (clash ((proper_says n b c).1 (s, d)) e)
]

pub sperners_bound : SpernersBound
sperners_bound n l a =
    omega (arith, members_few (2 ^ n) l a.coalitions a.distinct, apart_few n (is_in l) apart, largest_middle n)
  where
    apart : Apart n (is_in l)
    apart b c hb hc eb ec =
        let v = found l b eb in
        let w = found l c ec in
        not_inside n b c (ap₂ (λ (x y : ℕ). proper_subset n x y) (sym v.2) (sym w.2) ∙ a.none_inside v.0 w.0 v.1 w.1)

-- ---- from a set to a list

module _ (n : ℕ) (f : ℕ → Bool) (apart : Apart n f) where
  family : List ℕ
  family = those f 0 (2 ^ n)

  place_same : (i j : ℕ) → i < length family → j < length family → get_or family i 0 ≡ get_or family j 0 → (i < j) ⊎ (j ≤ i) → (j < i) ⊎ (i ≤ j) → i ≡ j
  unfolding family
  place_same i j hi hj e (inl l) o = absurd (omega (arith, nth_ascends f 0 (2 ^ n) i j l hj))
  place_same i j hi hj e (inr l) (inl m) = absurd (omega (arith, nth_ascends f 0 (2 ^ n) j i m hi))
  place_same i j hi hj e (inr l) (inr m) = omega arith

  pub listed_antichain : Antichain n (those f 0 (2 ^ n))
  unfolding family
  listed_antichain = record {
    coalitions = λ i h. omega (arith, (nth_there f 0 (2 ^ n) i h).below);
    distinct = λ i j hi hj e. place_same i j hi hj e (lt_or_ge i j) (lt_or_ge j i);
    none_inside = λ i j hi hj.
        let b = nth f 0 (2 ^ n) i in
        let c = nth f 0 (2 ^ n) j in
        let v = nth_there f 0 (2 ^ n) i hi in
        let w = nth_there f 0 (2 ^ n) j hj in
        false_of (proper_subset n b c) (λ p.
        let s = (proper_says n b c).0 p in
        s.1 (apart b c (omega (arith, v.below)) (omega (arith, w.below)) v.is w.is s.0));
  }

pub bound_reached : BoundReached
bound_reached n = record {
  family = those (of_size n (n / 2)) 0 (2 ^ n);
  antichain = listed_antichain n (of_size n (n / 2)) (one_size_apart n (n / 2));
  members = unfold layer in sym (largest_middle n);
}

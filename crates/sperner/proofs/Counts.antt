-- How many numbers of a run are of f, and which they are. Assumes nothing.
use mathlib.Core.Path.{◌≡◌, refl, sym, ap, ◌∙◌}
use Prim.Native.Nat.{ℕ, zero, suc, ◌+◌, ◌^◌, ◌≤◌, ◌<◌}
use native.Mathlib.Nat.{zero-add, add-zero, add-suc, pow-suc}
use native.Mathlib.Omega.{arith}
use mathlib.Core.Bool.{Bool, true, false, cond}
use mathlib.Core.List.{List, [], ◌∷◌}
use lib.ListN.{length, get_or, length-append}
use Rattle.model.specs.Coalitions.{bit, those}
use Rattle.model.proofs.Listed.{those_add, those_cong}

-- how many of the numbers below k are of f
abbrev pub count : (ℕ → Bool) → ℕ → ℕ
count f k = length (those f 0 k)

length-chosen : (b : Bool) (i : ℕ) (l : List ℕ) → length (cond b (i ∷ l) l) ≡ bit b + length l
length-chosen true i l = omega arith
length-chosen false i l = omega arith

-- a run that starts m later
count-from : (f : ℕ → Bool) (m i k : ℕ) → length (those f (m + i) k) ≡ length (those (λ c. f (m + c)) i k)
unfolding those
count-from f m i zero = refl
count-from f m i (suc k) =
    length-chosen (f (m + i)) (m + i) (those f (suc (m + i)) k)
    ∙ ap (λ (x : ℕ). bit (f (m + i)) + length (those f x k)) (sym (add-suc m i))
    ∙ ap (λ (x : ℕ). bit (f (m + i)) + x) (count-from f m (suc i) k)
    ∙ sym (length-chosen (f (m + i)) i (those (λ c. f (m + c)) (suc i) k))

-- the numbers below a, and the next b
pub count_add : (f : ℕ → Bool) (a b : ℕ) → count f (a + b) ≡ count f a + count (λ c. f (a + c)) b
count_add f a b =
    ap length (those_add f 0 a b) ∙ length-append (those f 0 a) (those f (0 + a) b)
    ∙ ap (λ (x : ℕ). count f a + length (those f x b)) (zero-add a ∙ sym (add-zero a))
    ∙ ap (λ (x : ℕ). count f a + x) (count-from f a 0 b)

-- one number more
pub count-suc : (f : ℕ → Bool) (k : ℕ) → count f (suc k) ≡ count f k + bit (f k)
unfolding those
count-suc f k =
    let e : k + 1 ≡ suc k = omega arith in
    ap (count f) (sym e) ∙ count_add f k 1
    ∙ ap (λ (x : ℕ). count f k + x) (length-chosen (f (k + 0)) 0 [] ∙ add-zero (bit (f (k + 0))) ∙ ap (λ (x : ℕ). bit (f x)) (add-zero k))

-- of the coalitions of one name more, those without it and those with it
pub count_double : (f : ℕ → Bool) (n : ℕ) → count f (2 ^ suc n) ≡ count f (2 ^ n) + count (λ c. f (2 ^ n + c)) (2 ^ n)
count_double f n =
    let e : 2 ^ suc n ≡ 2 ^ n + 2 ^ n = omega (arith, pow-suc 2 n) in
    ap (count f) e ∙ count_add f (2 ^ n) (2 ^ n)

pub count_cong : (f g : ℕ → Bool) (k : ℕ) → ((c : ℕ) → c < k → f c ≡ g c) → count f k ≡ count g k
count_cong f g k h = ap length (those_cong f g 0 k (λ c l m. h c (omega arith)))

-- ---- what stands at a place of the list

-- of the k numbers from a on that are of f, number i
abbrev pub nth : (ℕ → Bool) → ℕ → ℕ → ℕ → ℕ
nth f a k i = get_or (those f a k) i 0

pub record IsThere (f : ℕ → Bool) (a k c : ℕ) : Type 0 where
  pub from : a ≤ c
  pub below : c < a + k
  pub is : f c ≡ true

pub nth_there : (f : ℕ → Bool) (a k i : ℕ) → i < length (those f a k) → IsThere f a k (nth f a k i)
unfolding those
nth_there f a zero i h = absurd (omega arith)
nth_there f a (suc k) i h = go (those f (suc a) k) (f a) refl (λ j m. later (nth f (suc a) k j) (nth_there f (suc a) k j m)) i h
  where
    later : (c : ℕ) → IsThere f (suc a) k c → IsThere f a (suc k) c
    later c w = record { from = omega (arith, w.from); below = omega (arith, w.below); is = w.is }

    go : (rest : List ℕ) (b : Bool) → f a ≡ b → ((j : ℕ) → j < length rest → IsThere f a (suc k) (get_or rest j 0))
        → (i : ℕ) → i < length (cond b (a ∷ rest) rest) → IsThere f a (suc k) (get_or (cond b (a ∷ rest) rest) i 0)
    go rest true e more zero h = record { from = omega arith; below = omega arith; is = e }
    go rest true e more (suc i) h = more i (omega arith)
    go rest false e more i h = more i h

-- they ascend
pub nth_ascends : (f : ℕ → Bool) (a k i j : ℕ) → i < j → j < length (those f a k) → nth f a k i < nth f a k j
unfolding those
nth_ascends f a zero i j l h = absurd (omega arith)
nth_ascends f a (suc k) i j l h = go (those f (suc a) k) (f a) (λ j m. (nth_there f (suc a) k j m).from) (λ i j. nth_ascends f (suc a) k i j) i j l h
  where
    go : (rest : List ℕ) (b : Bool) → ((j : ℕ) → j < length rest → a < get_or rest j 0) → ((i j : ℕ) → i < j → j < length rest → get_or rest i 0 < get_or rest j 0)
        → (i j : ℕ) → i < j → j < length (cond b (a ∷ rest) rest) → get_or (cond b (a ∷ rest) rest) i 0 < get_or (cond b (a ∷ rest) rest) j 0
    go rest true after more i zero l h = absurd (omega arith)
    go rest true after more zero (suc j) l h = after j (omega arith)
    go rest true after more (suc i) (suc j) l h = more i j (omega arith) (omega arith)
    go rest false after more i j l h = more i j l h

-- Document 02, K4: quorums. Where a quorum is held, and how it is refused. Assumes nothing: these are the statements.
use Rattle.std.specs.Prelude.{◌≡◌, ◌⊎◌, ◌↔◌, ℕ, zero, suc, ◌^◌, ◌≤◌, ◌<◌, Bool, true, false, List, [], ◌∷◌, ◌++◌, length}
use Rattle.model.specs.Sides.{Side}
use Rattle.model.specs.Readings.{accepted, refused}
use Rattle.model.specs.Terms.{Term, conj, disj, quorum, Terms, nil, cons, count, codes_all, PartsBelow, stopped, read_front, read_term, held}
use Rattle.model.specs.Grants.{acts_statically}
use Rattle.model.specs.Meanings.{Subset}

-- The part at place i is held on the side at coalition c; the first place is 0, and past the last one nothing is held.
unfoldable pub held_at : Terms → ℕ → Side → ℕ → Bool
held_at nil i s c = false
held_at (cons t ts) zero s c = held t s c
held_at (cons t ts) (suc i) s c = held_at ts i s c

unfoldable pub HeldAtEach : Terms → List ℕ → Side → ℕ → Type 0
HeldAtEach ts [] s c = Unit {0}
HeldAtEach ts (i ∷ places) s c = (held_at ts i s c ≡ true) × HeldAtEach ts places s c

-- places from l up, each after the one before it, and so all different
unfoldable pub Ascending : ℕ → List ℕ → Type 0
Ascending l [] = Unit {0}
Ascending l (i ∷ places) = (l ≤ i) × Ascending (suc i) places

-- k places, all different, whose parts are held there; equal parts at two places count twice.
pub record PlacesHeld (k : ℕ) (ts : Terms) (s : Side) (c : ℕ) : Type 0 where
  pub places : List ℕ
  pub different : Ascending 0 places
  pub so_many : length places ≡ k
  pub each : HeldAtEach ts places s c

-- A quorum is held on a side exactly where k of its places are held there.
abbrev pub HeldByPlaces : Type 0
HeldByPlaces = (k : ℕ) (ts : Terms) (s : Side) (c : ℕ) → held (quorum k ts) s c ≡ true ↔ PlacesHeld k ts s c

-- some place is held
pub record APlaceHeld (ts : Terms) (s : Side) (c : ℕ) : Type 0 where
  pub place : ℕ
  pub there : held_at ts place s c ≡ true

-- One of some parts is held where at least one is, and all of them where every one is; of two parts that is either, and both.
pub record OneAndAll : Type 0 where
  pub one : (ts : Terms) (s : Side) (c : ℕ) → held (quorum 1 ts) s c ≡ true ↔ APlaceHeld ts s c
  pub all : (ts : Terms) (s : Side) (c : ℕ) → held (quorum (count ts) ts) s c ≡ true ↔ ((i : ℕ) → i < count ts → held_at ts i s c ≡ true)
  pub one_of_two : (p q : Term) (s : Side) (c : ℕ) → held (quorum 1 (cons p (cons q nil))) s c ≡ held (disj p q) s c
  pub two_of_two : (p q : Term) (s : Side) (c : ℕ) → held (quorum 2 (cons p (cons q nil))) s c ≡ held (conj p q) s c

-- Of the same parts, a quorum of more acts statically for one of fewer.
abbrev pub MoreForFewer : Type 0
MoreForFewer = (n j k : ℕ) (ts : Terms) → k ≤ j → acts_statically n (quorum j ts) (quorum k ts) ≡ true

-- What a coalition b of n names holds, a coalition c with all its members holds.
abbrev pub MoreMembersHold : Type 0
MoreMembersHold = (n k : ℕ) (ts : Terms) (s : Side) (b c : ℕ) → b < 2 ^ n → Subset n b c
    → held (quorum k ts) s b ≡ true → held (quorum k ts) s c ≡ true

-- not 1 ≤ k ≤ m ≤ 12
abbrev pub NoQuorum : ℕ → ℕ → Type 0
NoQuorum k m = (k < 1) ⊎ ((m < k) ⊎ (12 < m))

-- A list that begins with a quorum's code, left to right: k, then m, then the parts. 32, k and m are three of the 64 codes.
pub record LeftToRight : Type 0 where
  pub no_k : (n : ℕ) → read_term n (0x32 ∷ []) ≡ refused 3
  -- k is not judged yet
  pub no_m : (n k : ℕ) → read_term n (0x32 ∷ k ∷ []) ≡ refused 3
  -- whatever follows
  pub out_of_range : (n k m : ℕ) (rest : List ℕ) → length rest ≤ 61 → NoQuorum k m → read_term n (0x32 ∷ k ∷ m ∷ rest) ≡ refused 2
  -- some parts but not all, and then what no term can be read from: its refusal
  pub in_a_part : (n k m : ℕ) (ts : Terms) (rest : List ℕ) (r : ℕ) → length (codes_all ts ++ rest) ≤ 61 → (NoQuorum k m → ⊥) → PartsBelow n ts → count ts < m
      → read_front n rest ≡ stopped r → read_term n (0x32 ∷ k ∷ m ∷ (codes_all ts ++ rest)) ≡ refused r
  -- all parts
  pub whole : (n k : ℕ) (ts : Terms) → length (codes_all ts) ≤ 61 → (NoQuorum k (count ts) → ⊥) → PartsBelow n ts → read_term n (0x32 ∷ k ∷ count ts ∷ codes_all ts) ≡ accepted (quorum k ts)
  pub codes_left : (n k : ℕ) (ts : Terms) (x : ℕ) (rest : List ℕ) → length (codes_all ts ++ x ∷ rest) ≤ 61 → (NoQuorum k (count ts) → ⊥) → PartsBelow n ts
      → read_term n (0x32 ∷ k ∷ count ts ∷ (codes_all ts ++ x ∷ rest)) ≡ refused 4

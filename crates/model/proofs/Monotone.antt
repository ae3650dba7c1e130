-- Coalitions as sets of names, and terms as monotone in them: a coalition with more members holds what one with fewer holds. So a minimal
-- coalition (document 01, "Short form") is told by the coalitions with one member less. Assumes nothing.
use mathlib.Core.Path.{◌≡◌, refl, sym, ap, ◌∙◌}
use mathlib.Core.Logic.{◌↔◌}
use Prim.Native.Nat.{ℕ, zero, suc, ◌-◌, ◌/◌, ◌%◌, ◌^◌, ◌≤◌, ◌<◌}
use native.Mathlib.Nat.{pow-suc}
use native.Mathlib.Decide.{ℕ_discrete, dec_lt}
use native.Mathlib.Omega.{arith}
use mathlib.Core.Bool.{Bool, true, false, cond, not, ◌&&◌, true≢false}
use lib.Dec.{eqb}
use lib.Pow.{pow_mono}
use borrow.Author.Tests.{eqb-true, eqb-false, ne_eqb, not-true, leb-true, le-leb}
use Rattle.model.specs.Sides.{Side, confidentiality, integrity}
use Rattle.model.specs.Coalitions.{member, implies, every, Lowest, nowhere, at, lowest, subset, proper_subset}
use Rattle.model.specs.Terms.{Term, name, top, bottom, conj, disj, project, quorum, Terms, nil, cons, held, held_count}
use Rattle.model.specs.ShortForms.{minimal}
use Rattle.model.specs.Meanings.{Subset}
use Rattle.model.proofs.Truth.{clash, true_of, false_of, and_intro, and_left, and_right, or_left, or_right, or_elim, bool_ext, implies_elim, implies_intro}
use Rattle.model.proofs.Search.{Says, every_elim, every_intro, lowest_says}
use Rattle.model.proofs.Packed.{member-zero, member-suc, bits_ext}

-- ---- one member less

odd_member : (c : ℕ) → member 0 c ≡ true → c % 2 ≡ 1
odd_member c e = eqb-true (c % 2) 1 (sym (member-zero c) ∙ e)

-- a member's worth is in the number
pub member_le : (i c : ℕ) → member i c ≡ true → 2 ^ i ≤ c
member_le zero c e = omega (arith, odd_member c e)
member_le (suc i) c e = omega (arith, member_le i (c / 2) (sym (member-suc i c) ∙ e), pow-suc 2 i)

-- so a number has no members past it
pub member_past : (i c : ℕ) → c < 2 ^ i → member i c ≡ false
member_past i c h = false_of (member i c) (λ e. omega (arith, member_le i c e))

half_less : (i c : ℕ) → member (suc i) c ≡ true → (c - 2 ^ suc i) / 2 ≡ c / 2 - 2 ^ i
half_less i c e = omega (arith, member_le (suc i) c e, pow-suc 2 i)

pub less_lacks : (i c : ℕ) → member i c ≡ true → member i (c - 2 ^ i) ≡ false
less_lacks zero c e = member-zero (c - 2 ^ 0) ∙ ne_eqb ((c - 2 ^ 0) % 2) 1 (λ q. omega (arith, odd_member c e, q))
less_lacks (suc i) c e = member-suc i (c - 2 ^ suc i) ∙ ap (member i) (half_less i c e) ∙ less_lacks i (c / 2) (sym (member-suc i c) ∙ e)

-- the other members stay
pub less_keeps : (i j c : ℕ) → member i c ≡ true → (j ≡ i → ⊥) → member j (c - 2 ^ i) ≡ member j c
less_keeps zero zero c e d = absurd (d refl)
less_keeps zero (suc j) c e d =
    let q : (c - 2 ^ 0) / 2 ≡ c / 2 = omega (arith, odd_member c e) in
    member-suc j (c - 2 ^ 0) ∙ ap (member j) q ∙ sym (member-suc j c)
less_keeps (suc i) zero c e d =
    let q : (c - 2 ^ suc i) % 2 ≡ c % 2 = omega (arith, member_le (suc i) c e, pow-suc 2 i) in
    member-zero (c - 2 ^ suc i) ∙ ap (λ (x : ℕ). eqb x 1) q ∙ sym (member-zero c)
less_keeps (suc i) (suc j) c e d =
    member-suc j (c - 2 ^ suc i) ∙ ap (member j) (half_less i c e)
    ∙ less_keeps i j (c / 2) (sym (member-suc i c) ∙ e) (λ q. d (ap suc q)) ∙ sym (member-suc j c)

pub less_subset : (n i c : ℕ) → member i c ≡ true → Subset n (c - 2 ^ i) c
less_subset n i c e j l m = elim (ℕ_discrete j i) [
  | yes q ↦ rw q e
  | no d ↦ sym (less_keeps i j c e d) ∙ m
]

-- ---- terms

-- on the coalitions of n names, what f has it has with more members too
abbrev pub Monotone : ℕ → (ℕ → Bool) → Type 0
Monotone n f = (b c : ℕ) → b < 2 ^ n → Subset n b c → f b ≡ true → f c ≡ true

-- one part more that is held counts
counts_more : {x y : ℕ} (a b : Bool) → (a ≡ true → b ≡ true) → x ≤ y → cond a (suc x) x ≤ cond b (suc y) y
counts_more true true h l = omega arith
counts_more true false h l = absurd (true≢false (sym (h refl)))
counts_more false true h l = omega arith
counts_more false false h l = l

-- A term is held by every coalition that has the members of one that holds it. Of names from n up a coalition of n names has none.
mutual
  unfolding held

  pub held_monotone : (n : ℕ) (t : Term) (s : Side) → Monotone n (held t s)
  held_monotone n (name i) s b c l h e = elim (dec_lt i n) [
    | yes m ↦ h i m e
    | no m ↦ (let few : n ≤ i = omega arith in absurd (clash e (member_past i b (omega (arith, pow_mono few)))))
  ]
  held_monotone n top s b c l h e = e
  held_monotone n bottom s b c l h e = e
  held_monotone n (conj p q) s b c l h e =
      and_intro (held_monotone n p s b c l h (and_left (held p s b) (held q s b) e)) (held_monotone n q s b c l h (and_right (held p s b) (held q s b) e))
  held_monotone n (disj p q) s b c l h e =
      or_elim (held p s b) (held q s b) (λ e. or_left (held q s c) (held_monotone n p s b c l h e)) (λ e. or_right (held p s c) (held_monotone n q s b c l h e)) e
  held_monotone n (project confidentiality p) confidentiality b c l h e = held_monotone n p confidentiality b c l h e
  held_monotone n (project confidentiality p) integrity b c l h e = e
  held_monotone n (project integrity p) confidentiality b c l h e = e
  held_monotone n (project integrity p) integrity b c l h e = held_monotone n p integrity b c l h e
  held_monotone n (quorum k ts) s b c l h e = le-leb k (held_count ts s c) (omega (arith, leb-true k (held_count ts s b) e, count_monotone n ts s b c l h))

  -- and it holds at least as many of the parts of a quorum
  pub count_monotone : (n : ℕ) (ts : Terms) (s : Side) (b c : ℕ) → b < 2 ^ n → Subset n b c → held_count ts s b ≤ held_count ts s c
  count_monotone n nil s b c l h = omega arith
  count_monotone n (cons t ts) s b c l h = counts_more (held t s b) (held t s c) (λ e. held_monotone n t s b c l h e) (count_monotone n ts s b c l h)

-- ---- subsets

module _ (n b c : ℕ) where
  kept : ℕ → Bool
  kept i = implies (member i b) (member i c)

  -- what `subset` and `proper_subset` say
  pub subset_says : subset n b c ≡ true ↔ Subset n b c
  unfolding kept
  subset_says = (
    λ e i l. implies_elim (member i b) (member i c) (every_elim kept n e i l),
    λ w. every_intro kept n (λ i l. implies_intro (member i b) (member i c) (w i l)),
  )

  pub proper_says : proper_subset n b c ≡ true ↔ (Subset n b c × (b ≡ c → ⊥))
  unfolding proper_subset
  proper_says = (
    λ e. (subset_says.0 (and_left (subset n b c) (not (eqb b c)) e), eqb-false b c (not-true (eqb b c) (and_right (subset n b c) (not (eqb b c)) e))),
    λ w. and_intro (subset_says.1 w.0) (ap not (ne_eqb b c w.1)),
  )

-- the subset lacks some member of c, so that it is within c less that member
pub record Lacks (n b c : ℕ) : Type 0 where
  pub lost : ℕ
  pub below : lost < n
  pub among : member lost c ≡ true
  pub within : Subset n b (c - 2 ^ lost)

pub proper_lacks : (n b c : ℕ) → b < 2 ^ n → c < 2 ^ n → Subset n b c → (b ≡ c → ⊥) → Lacks n b c
proper_lacks n b c hb hc sub differ = go (lowest gone n) (lowest_says gone n)
  where
    gone : ℕ → Bool
    gone i = member i c && not (member i b)

    back : ((i : ℕ) → i < n → gone i ≡ false) → Subset n c b
    back none i l m = true_of (member i b) (λ e. clash (and_intro m (ap not e)) (none i l))

    go : (r : Lowest) → Says gone n r → Lacks n b c
    go nowhere none = absurd (differ (bits_ext n b c hb hc (λ i l. bool_ext (member i b) (member i c) (sub i l) (back none i l))))
    go (at i) w =
        let m : member i c ≡ true = and_left (member i c) (not (member i b)) w.there in
        let out : member i b ≡ false = not-true (member i b) (and_right (member i c) (not (member i b)) w.there) in
        record {
          lost = i;
          below = w.below;
          among = m;
          within = λ j l k. elim (ℕ_discrete j i) [
            | yes q ↦ absurd (clash (ap (λ (x : ℕ). member x b) (sym q) ∙ k) out)
            | no d ↦ less_keeps i j c m d ∙ sub j l k
          ];
        }

-- ---- minimal coalitions

-- of n names, f has none of the coalitions that are c with one member less
abbrev pub NoneLess : ℕ → (ℕ → Bool) → ℕ → Type 0
NoneLess n f c = (i : ℕ) → i < n → member i c ≡ true → f (c - 2 ^ i) ≡ false

module _ (n : ℕ) (f : ℕ → Bool) (c : ℕ) (mono : Monotone n f) (l : c < 2 ^ n) where
  alone : ℕ → Bool
  alone b = not (proper_subset n b c && f b)

  smaller : every alone (2 ^ n) ≡ true → NoneLess n f c
  unfolding alone
  smaller e i h m =
      false_of (f (c - 2 ^ i))
      (λ t. clash (and_intro ((proper_says n (c - 2 ^ i) c).1 (less_subset n i c m, λ q. clash (ap (member i) q ∙ m) (less_lacks i c m))) t)
      (not-true (proper_subset n (c - 2 ^ i) c && f (c - 2 ^ i)) (every_elim alone (2 ^ n) e (c - 2 ^ i) (omega arith))))

  smallest : NoneLess n f c → every alone (2 ^ n) ≡ true
  unfolding alone
  smallest none = every_intro alone (2 ^ n) (λ b h. ap not (false_of (proper_subset n b c && f b) (λ t.
      let s = (proper_says n b c).0 (and_left (proper_subset n b c) (f b) t) in
      let k = proper_lacks n b c h l s.0 s.1 in
      clash (mono b (c - 2 ^ k.lost) h k.within (and_right (proper_subset n b c) (f b) t)) (none k.lost k.below k.among))))

  -- Of a monotone f, a coalition is minimal exactly if f has it and has none with one member less.
  pub minimal_says : minimal n f c ≡ true ↔ ((f c ≡ true) × NoneLess n f c)
  unfolding minimal alone
  minimal_says = (
    λ e. (and_left (f c) (every alone (2 ^ n)) e, smaller (and_right (f c) (every alone (2 ^ n)) e)),
    λ w. and_intro w.0 (smallest w.1),
  )

-- A coalition's names from m up make no difference to terms whose names are below m, so that a grant is judged in fewer names than there are. Assumes nothing.
use mathlib.Core.Path.{◌≡◌, refl, sym, ap, ap₂, ◌∙◌, subst, fun_ext}
use mathlib.Core.Bool.{Bool, true, false, not, ◌&&◌, ◌||◌}
use mathlib.Core.List.{List, [], ◌∷◌}
use Prim.Native.Nat.{ℕ, zero, suc, ◌+◌, ◌-◌, ◌*◌, ◌/◌, ◌%◌, ◌^◌, ◌≤◌, ◌<◌, max}
use native.Mathlib.Nat.{mod-lt, pow-suc, mul-suc, add-mul-mod_self_left}
use native.Mathlib.Decide.{dec_lt}
use native.Mathlib.Omega.{arith}
use lib.Arith.{mod-mul}
use lib.Dec.{eqb, leb, ltb}
use lib.ListN.{length, take, drop, get_or, length-take}
use lib.Pow.{pow_pos, pow_mono, pow-add}
use lib.Seq.{get_or-take}
use borrow.Author.Tests.{lt-ltb, le-ltb, eq-eqb, not-true}
use Rattle.model.specs.Sides.{Side, confidentiality, integrity}
use Rattle.model.specs.Coalitions.{member, every}
use Rattle.model.specs.Terms.{Term, name, top, bottom, conj, disj, project, quorum, Terms, nil, cons, NamesBelow, PartsBelow, held, held_count}
use Rattle.model.specs.Grants.{Grant, marks_of, heard}
use Rattle.model.specs.Meanings.{Subset}
use Rattle.model.proofs.Truth.{clash, false_of, bool_ext, and_intro, and_left, and_right, or_left, or_right, or_elim}
use Rattle.model.proofs.Search.{every_elim, every_intro}
use Rattle.model.proofs.Packed.{member-zero, member-suc}
use Rattle.model.proofs.Monotone.{held_monotone}
use Rattle.words.specs.AnyBytes.{taken, term_in}
use Rattle.words.specs.Evaluation.{job_of, row_count}
use Rattle.words.proofs.AnyBytes.{names-taken}
use Rattle.words.proofs.Names.{rows_full}
use Rattle.ledgers.specs.Places.{q_place, label_place}
use Rattle.counting.specs.Counted.{grant_in, hides, breaks_some, bars_counting, joined_by, heard_at, NamesAt, NeededOf}
use Rattle.std.specs.List.{filter, fold}
use Rattle.counting.proofs.Bars.{heard_bars}
use Rattle.counting.proofs.Tests.{none_further}

-- the m + 1 low digits
digits : (c m : ℕ) → c % 2 ^ suc m ≡ (c / 2 % 2 ^ m) * 2 + c % 2
digits c m = ap (λ (x : ℕ). c % x) (pow-suc 2 m) ∙ mod-mul c (pow_pos m) (omega arith)

member_low : (i m c : ℕ) → i < m → member i (c % 2 ^ m) ≡ member i c
member_low i zero c h = absurd (omega arith)
member_low zero (suc m) c h =
    let e : c % 2 ^ suc m % 2 ≡ c % 2 = omega (arith, digits c m) in
    member-zero (c % 2 ^ suc m) ∙ ap (λ (x : ℕ). eqb x 1) e ∙ sym (member-zero c)
member_low (suc i) (suc m) c h =
    let e : c % 2 ^ suc m / 2 ≡ c / 2 % 2 ^ m = omega (arith, digits c m) in
    member-suc i (c % 2 ^ suc m) ∙ ap (member i) e ∙ member_low i m (c / 2) (omega arith) ∙ sym (member-suc i c)

mutual
  unfolding NamesBelow held

  held_low : (m : ℕ) (t : Term) (s : Side) (c : ℕ) → NamesBelow m t → held t s (c % 2 ^ m) ≡ held t s c
  held_low m (name i) s c h = member_low i m c h.1
  held_low m top s c h = refl
  held_low m bottom s c h = refl
  held_low m (conj p q) s c h = ap₂ ◌&&◌ (held_low m p s c h.0) (held_low m q s c h.1)
  held_low m (disj p q) s c h = ap₂ ◌||◌ (held_low m p s c h.0) (held_low m q s c h.1)
  held_low m (project confidentiality p) confidentiality c h = held_low m p confidentiality c h
  held_low m (project confidentiality p) integrity c h = refl
  held_low m (project integrity p) confidentiality c h = refl
  held_low m (project integrity p) integrity c h = held_low m p integrity c h
  held_low m (quorum k ts) s c h = ap (leb k) (count_low m ts s c h.1)

  count_low : (m : ℕ) (ts : Terms) (s : Side) (c : ℕ) → PartsBelow m ts → held_count ts s (c % 2 ^ m) ≡ held_count ts s c
  count_low m nil s c h = refl
  count_low m (cons t ts) s c h = rw (held_low m t s c h.0, count_low m ts s c h.1)

mutual
  unfolding NamesBelow

  names_more : (a b : ℕ) (t : Term) → ((i : ℕ) → i < 12 → i < a → i < b) → NamesBelow a t → NamesBelow b t
  names_more a b (name i) more h = (h.0, more i h.0 h.1)
  names_more a b top more h = tt
  names_more a b bottom more h = tt
  names_more a b (conj p q) more h = (names_more a b p more h.0, names_more a b q more h.1)
  names_more a b (disj p q) more h = (names_more a b p more h.0, names_more a b q more h.1)
  names_more a b (project s p) more h = names_more a b p more h
  names_more a b (quorum k ts) more h = (h.0, all_more a b ts more h.1)

  all_more : (a b : ℕ) (ts : Terms) → ((i : ℕ) → i < 12 → i < a → i < b) → PartsBelow a ts → PartsBelow b ts
  all_more a b nil more h = tt
  all_more a b (cons t ts) more h = (names_more a b t more h.0, all_more a b ts more h.1)

-- ---- p asked with all further names among the members

-- above the low r names all of n are members
member_above : (i r n x : ℕ) → r ≤ i → i < n → x < 2 ^ r → member i (x + (2 ^ n - 2 ^ r)) ≡ true
member_above i r zero x h l b = absurd (omega arith)
member_above zero zero (suc n) x h l b =
    let e : (x + (2 ^ suc n - 2 ^ 0)) % 2 ≡ 1 = omega (arith, pow-suc 2 n, pow_pos n) in
    member-zero (x + (2 ^ suc n - 2 ^ 0)) ∙ eq-eqb _ 1 e
member_above zero (suc r) (suc n) x h l b = absurd (omega arith)
member_above (suc i) zero (suc n) x h l b =
    let e : (x + (2 ^ suc n - 2 ^ 0)) / 2 ≡ x + (2 ^ n - 2 ^ 0) = omega (arith, pow-suc 2 n, pow_pos n) in
    member-suc i (x + (2 ^ suc n - 2 ^ 0)) ∙ ap (member i) e ∙ member_above i zero n x (omega arith) (omega arith) b
member_above (suc i) (suc r) (suc n) x h l b =
    let m : r ≤ n = omega arith in
    let e : (x + (2 ^ suc n - 2 ^ suc r)) / 2 ≡ x / 2 + (2 ^ n - 2 ^ r) = omega (arith, pow-suc 2 n, pow-suc 2 r, pow_mono m) in
    member-suc i (x + (2 ^ suc n - 2 ^ suc r)) ∙ ap (member i) e ∙ member_above i r n (x / 2) (omega arith) (omega arith) (omega (arith, pow-suc 2 r))

-- below them nothing is added
low_same : (r n c : ℕ) → r ≤ n → (c + (2 ^ n - 2 ^ r)) % 2 ^ r ≡ c % 2 ^ r
low_same r n c h =
    let e : r + (n - r) ≡ n = omega arith in
    let whole : 2 ^ n ≡ 2 ^ r * 2 ^ (n - r) = ap (λ (x : ℕ). 2 ^ x) (sym e) ∙ pow-add 2 r (n - r) in
    let one : 2 ^ (n - r) ≡ suc (2 ^ (n - r) - 1) = omega (arith, pow_pos (n - r)) in
    let last : 2 ^ r * 2 ^ (n - r) ≡ 2 ^ r * suc (2 ^ (n - r) - 1) = ap (λ (x : ℕ). 2 ^ r * x) one in
    let times : 2 ^ n - 2 ^ r ≡ 2 ^ r * (2 ^ (n - r) - 1) = omega (arith, mul-suc (2 ^ r) (2 ^ (n - r) - 1)) in
    ap (λ (x : ℕ). (c + x) % 2 ^ r) times ∙ add-mul-mod_self_left c (2 ^ r) (2 ^ (n - r) - 1)

-- where more hold p, those that barred the grant still do
still_bars : (u d a b x y v w : Bool) → (a ≡ true → b ≡ true) → (v ≡ true → w ≡ true)
    → (u || (d && ((a && not x) || (v && not y)))) ≡ true → (u || (d && ((b && not x) || (w && not y)))) ≡ true
still_bars true d a b x y v w f h e = refl
still_bars false false a b x y v w f h e = e
still_bars false true a b x y v w f h e =
    or_elim (a && not x) (v && not y)
    (λ k. or_left (w && not y) (and_intro (f (and_left a (not x) k)) (and_right a (not x) k)))
    (λ k. or_right (b && not x) (and_intro (h (and_left v (not y) k)) (and_right v (not y) k)))
    e

module _ (r n : ℕ) (L : Term) (g : Grant) (few : r ≤ n) (a : NamesBelow r L) (b : NamesBelow r g.label) (d : NamesBelow r g.q) where
  abbrev more : ℕ
  more = 2 ^ n - 2 ^ r

  held_more : (t : Term) (s : Side) (c : ℕ) → NamesBelow r t → held t s (c + more) ≡ held t s c
  held_more t s c h = sym (held_low r t s (c + (2 ^ n - 2 ^ r)) h) ∙ ap (held t s) (low_same r n c few) ∙ held_low r t s c h

  -- a coalition is within its part of the low names together with all others
  within_more : (c : ℕ) → Subset n c (c % 2 ^ r + more)
  within_more c i h m = elim (dec_lt i r) [
    | yes l ↦ sym (member_low i r (c % 2 ^ r + (2 ^ n - 2 ^ r)) l) ∙ ap (member i) (low_same r n (c % 2 ^ r) few) ∙ member_low i r (c % 2 ^ r) l ∙ member_low i r c l ∙ m
    | no l ↦ member_above i r n (c % 2 ^ r) (omega arith) h (mod-lt c (pow_pos r))
  ]

  abbrev bars : ℕ → Bool
  bars = bars_counting (held L) (marks_of g)

  abbrev bars_more : ℕ → Bool
  bars_more = bars_counting (held L) (joined_by more (marks_of g))

  more_same : (c : ℕ) → bars (c + more) ≡ bars_more c
  unfolding hides breaks_some bars_counting
  more_same c = rw (held_more L confidentiality c a, held_more L integrity c a, held_more g.label confidentiality c b, held_more g.label integrity c b, held_more g.q confidentiality c d, held_more g.q integrity c d)

  more_bars : (c : ℕ) → c < 2 ^ n → bars c ≡ true → bars_more (c % 2 ^ r) ≡ true
  unfolding hides breaks_some bars_counting
  more_bars c l e =
      rw (held_low r L confidentiality c a, held_low r L integrity c a, held_low r g.label confidentiality c b, held_low r g.label integrity c b, held_low r g.q confidentiality c d, held_low r g.q integrity c d)
      (still_bars _ (held g.label integrity c) (held g.p confidentiality c) _ (held g.q confidentiality c) (held g.q integrity c) (held g.p integrity c) _
      (held_monotone n g.p confidentiality c (c % 2 ^ r + more) l (within_more c)) (held_monotone n g.p integrity c (c % 2 ^ r + more) l (within_more c)) e)

  -- the grant is heard exactly if no coalition of the low names bars it so
  heard_more : every (λ c. not (bars_more c)) (2 ^ r) ≡ heard n (held L) (marks_of g)
  heard_more =
      bool_ext (every (λ c. not (bars_more c)) (2 ^ r)) (every (λ c. not (bars c)) (2 ^ n)) there back
      ∙ sym (heard_bars n (held L) (marks_of g) (held_monotone n g.label integrity))
    where
      there : every (λ c. not (bars_more c)) (2 ^ r) ≡ true → every (λ c. not (bars c)) (2 ^ n) ≡ true
      there e = every_intro (λ c. not (bars c)) (2 ^ n) (λ c l. ap not (false_of (bars c) (λ t.
          clash (more_bars c l t) (not-true (bars_more (c % 2 ^ r)) (every_elim (λ c. not (bars_more c)) (2 ^ r) e (c % 2 ^ r) (mod-lt c (pow_pos r)))))))

      back : every (λ c. not (bars c)) (2 ^ n) ≡ true → every (λ c. not (bars_more c)) (2 ^ r) ≡ true
      back e = every_intro (λ c. not (bars_more c)) (2 ^ r) (λ c l.
          ap not (sym (more_same c)) ∙ every_elim (λ c. not (bars c)) (2 ^ n) e (c + (2 ^ n - 2 ^ r)) (omega (arith, pow_mono few)))

-- ---- the names that the code finds

-- a name among the bytes, and the number above it if that is more
abbrev pub small : ℕ → Bool
small b = ltb b 12

abbrev pub above : ℕ → ℕ → ℕ
above most b = max most (b + 1)

-- The highest is above each.
abbrev Above : List ℕ → ℕ → ℕ → Type 0
Above l least most = (least ≤ most) × ((j : ℕ) → j < length l → get_or l j 0 < 12 → get_or l j 0 < most)

highest : (l : List ℕ) (least : ℕ) → Above l least (fold above least (filter small l))
highest [] least = (omega arith, λ j h. absurd (omega arith))
highest (b ∷ l) least = elim (dec_lt b 12) [
  | yes n ↦ rw (lt-ltb b 12 n) (let ih = highest l (max least (b + 1)) in (omega (arith, ih.0), λ j h m. next j h m (λ e. omega (arith, ih.0)) ih.1))
  | no n ↦ rw (le-ltb b 12 (omega arith)) (let ih = highest l least in (ih.0, λ j h m. next j h m (λ e. absurd (omega arith)) ih.1))
]
  where
    next : {most : ℕ} (j : ℕ) → j < length (b ∷ l) → get_or (b ∷ l) j 0 < 12 → (b < 12 → b < most) → ((i : ℕ) → i < length l → get_or l i 0 < 12 → get_or l i 0 < most) → get_or (b ∷ l) j 0 < most
    next zero h m here rest = here m
    next (suc i) h m here rest = rest i (omega arith) m

-- all bytes that the term takes were looked at, as far as there are any
pub names_found : (bytes : List ℕ) (at least n r : ℕ) → n ≡ (taken (drop at bytes)).size → r ≡ fold above least (filter small (take n (drop at bytes))) → NamesAt bytes at least r
names_found bytes at least n r e f =
    let there = drop at bytes in
    let h : Above (take n there) least r = subst (Above (take n there) least) (sym f) (highest (take n there) least) in
    record {
      most = h.0;
      below = names-taken r (length there) there (omega arith) (λ j l b m.
          let d = get_or-take n there j 0 (omega arith) in
          rw d at (h.1 j (omega (arith, length-take n there)) (rw d m)));
    }

-- the names of the label, of the grant's label and of its q are below r
pub needed_few : (ledger : List ℕ) (n k : ℕ) (label : List ℕ) (a b r : ℕ) → r < n → NamesAt label 0 8 a → NamesAt ledger (label_place k) a b → NamesAt ledger (q_place k) b r
    → NeededOf ledger n k label r
needed_few ledger n k label a b r h L d q =
    let up : a ≤ b = d.most in
    let up' : b ≤ r = q.most in
    let eight : 8 ≤ r = omega (arith, L.most) in
    let worth : 2 ^ job_of n - 2 ^ job_of r ≡ 256 * (row_count n - row_count r) = omega (arith, rows_full (job_of n) (omega arith), rows_full (job_of r) (omega arith)) in
    record {
      few = omega arith;
      alike = subst (λ (more : ℕ). every (λ c. not (bars_counting (held (term_in label)) (joined_by more (marks_of (grant_in ledger k))) c)) (2 ^ job_of r) ≡ heard_at ledger n label k) worth
          (heard_more (job_of r) (job_of n) (term_in label) (grant_in ledger k) (omega arith)
          (names_more a (job_of r) _ (λ i l m. omega arith) L.below) (names_more b (job_of r) _ (λ i l m. omega arith) d.below) (names_more r (job_of r) _ (λ i l m. omega arith) q.below));
    }

-- all n names are enough
pub needed_all : (ledger : List ℕ) (n k : ℕ) (label : List ℕ) → NeededOf ledger n k label n
needed_all ledger n k label =
    let none : row_count n - row_count n ≡ 0 = omega arith in
    let g = marks_of (grant_in ledger k) in
    record {
      few = omega arith;
      alike = rw none
          (ap (λ (f : ℕ → Bool). every f (2 ^ job_of n)) (fun_ext (λ c. ap not (none_further (held (term_in label)) g c)))
          ∙ sym (heard_bars (job_of n) (held (term_in label)) g (held_monotone (job_of n) (grant_in ledger k).label integrity)));
    }

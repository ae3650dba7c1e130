-- Laws of reading texts (document 02, K1 and K4): what is read off the end of a text is a tree of the grammar, and a tree's text is read as that tree.
-- Assumes nothing.
use Prim.Native.Nat.{ℕ, zero, suc, ◌+◌, ◌-◌, ◌<◌, ◌≤◌}
use native.Mathlib.Omega.{arith}
use mathlib.Core.Path.{◌≡◌, refl, sym, ap, ◌∙◌}
use mathlib.Core.Bool.{Bool, true, false, cond, ◌&&◌, true≢false, false≢true}
use mathlib.Core.List.{List, [], ◌∷◌, ◌++◌, reverse, reverse_aux, reverse_aux-append, reverse-reverse}
use lib.Dec.{eqb, ltb, leb}
use lib.ListN.{length, drop, length-append, length-reverse}
use borrow.Author.Tests.{ltb-true, ltb-false, eqb-true, leb-true, lt-ltb, le-ltb, le-leb, eq-eqb, ne_eqb}
use Rattle.model.specs.Sides.{Side, confidentiality, integrity}
use Rattle.model.specs.Terms.{Term, count, quorate, codes, codes_all}
use Rattle.model.specs.Texts.{Joiner, both, either, Tree, letter, star, low, bracket, signed, join, at_least, Trees, no_place, place, places, sign, joiner, decimal, flat, flat_all, join_terms, term, terms, join_rank, rank, Grammar, GrammarAll}
use Rattle.model.specs.Notation.{Back, ended, no_text, leftward, Last, sole, side, closing, other, last_of, ends_in, digit, ends_in_digit, Number, number, no_number, read_number, on_number, numbered, bracketed, opened, placed, joined_to, read_last, read_atom, read_both, read_either, read_rank, read_place, read_deep, around_deep, read_back, around_back}
use Rattle.model.proofs.Truth.{cond_case, and_left, and_right, and_intro, false_of}
use Rattle.model.proofs.Reading.{quorate_true}

-- ---- trees and their texts

-- the code of a joiner, and the rank of the parts of its list
abbrev pub join_code : Joiner → ℕ
join_code both = 0x30
join_code either = 0x31

abbrev pub part_rank : Joiner → ℕ
part_rank both = 0
part_rank either = 1

pub part_rank_lem : (j : Joiner) → suc (part_rank j) ≡ join_rank j
part_rank_lem both = refl
part_rank_lem either = refl

pub join_codes : (j : Joiner) (p q : Term) → codes (join_terms j p q) ≡ join_code j ∷ (codes p ++ codes q)
unfolding codes
join_codes both p q = refl
join_codes either p q = refl

-- no rank is over 2
join_most : (j : Joiner) → join_rank j ≤ 2
join_most both = omega arith
join_most either = omega arith

pub rank_most : (w : Tree) → rank w ≤ 2
unfolding rank
rank_most (letter i) = omega arith
rank_most star = omega arith
rank_most low = omega arith
rank_most (bracket w) = omega arith
rank_most (signed s w) = omega arith
rank_most (join j p q) = join_most j
rank_most (at_least k ws) = omega arith

-- a number's digits, the last one first, and then what stands before them
abbrev pub digits : ℕ → List ℕ → List ℕ
digits k r = cond (ltb k 10) ((0x30 + k) ∷ r) ((0x30 + (k - 10)) ∷ 0x31 ∷ r)

digits_decimal : (k : ℕ) (r : List ℕ) → digits k r ≡ reverse_aux (decimal k) r
digits_decimal k r = by (ltb k 10)
  where
    by : (b : Bool) → cond b ((0x30 + k) ∷ r) ((0x30 + (k - 10)) ∷ 0x31 ∷ r) ≡ reverse_aux (cond b ((0x30 + k) ∷ []) (0x31 ∷ (0x30 + (k - 10)) ∷ [])) r
    by true = refl
    by false = refl

digits_long : (k : ℕ) (r : List ℕ) → suc (length r) ≤ length (digits k r)
digits_long k r = cond_case (λ (l : List ℕ). suc (length r) ≤ length l) (ltb k 10) _ _ (λ _. omega arith) (λ _. omega arith)

-- The text of a tree, the last character first, and then what stands before it; and that of some places, the first of them after c.
unfoldable mutual
  pub onto : Tree → List ℕ → List ℕ
  onto (letter i) r = (0x61 + i) ∷ r
  onto star r = 0x2A ∷ r
  onto low r = 0x5F ∷ r
  onto (bracket w) r = 0x29 ∷ onto w (0x28 ∷ r)
  onto (signed s w) r = sign s ∷ onto w r
  onto (join j p q) r = onto q (joiner j ∷ onto p r)
  onto (at_least k ws) r = 0x29 ∷ onto_all 0x28 ws (digits (places ws) (0x3A ∷ digits k r))

  pub onto_all : ℕ → Trees → List ℕ → List ℕ
  onto_all c no_place r = r
  onto_all c (place w ws) r = onto_all 0x2C ws (onto w (c ∷ r))

mutual
  unfolding onto flat

  pub onto_flat : (w : Tree) (r : List ℕ) → onto w r ≡ reverse_aux (flat w) r
  onto_flat (letter i) r = refl
  onto_flat star r = refl
  onto_flat low r = refl
  onto_flat (bracket w) r = ap (◌∷◌ 0x29) (onto_flat w (0x28 ∷ r)) ∙ sym (reverse_aux-append (flat w) (0x29 ∷ []) (0x28 ∷ r))
  onto_flat (signed s w) r = ap (◌∷◌ (sign s)) (onto_flat w r) ∙ sym (reverse_aux-append (flat w) (sign s ∷ []) r)
  onto_flat (join j p q) r =
      onto_flat q (joiner j ∷ onto p r) ∙ ap (λ (l : List ℕ). reverse_aux (flat q) (joiner j ∷ l)) (onto_flat p r) ∙ sym (reverse_aux-append (flat p) (joiner j ∷ flat q) r)
  onto_flat (at_least k ws) r =
      let m = digits_decimal (places ws) (0x3A ∷ digits k r) ∙ ap (λ (l : List ℕ). reverse_aux (decimal (places ws)) (0x3A ∷ l)) (digits_decimal k r) in
      ap (◌∷◌ 0x29) (onto_all_flat 0x28 ws (digits (places ws) (0x3A ∷ digits k r)) ∙ ap (reverse_aux (flat_all 0x28 ws)) m)
      ∙ sym (reverse_aux-append (flat_all 0x28 ws) (0x29 ∷ []) (reverse_aux (decimal (places ws)) (0x3A ∷ reverse_aux (decimal k) r)))
      ∙ sym (reverse_aux-append (decimal (places ws)) (flat_all 0x28 ws ++ 0x29 ∷ []) (0x3A ∷ reverse_aux (decimal k) r))
      ∙ sym (reverse_aux-append (decimal k) (0x3A ∷ (decimal (places ws) ++ (flat_all 0x28 ws ++ 0x29 ∷ []))) r)

  onto_all_flat : (c : ℕ) (ws : Trees) (r : List ℕ) → onto_all c ws r ≡ reverse_aux (flat_all c ws) r
  onto_all_flat c no_place r = refl
  onto_all_flat c (place w ws) r =
      onto_all_flat 0x2C ws (onto w (c ∷ r)) ∙ ap (reverse_aux (flat_all 0x2C ws)) (onto_flat w (c ∷ r)) ∙ sym (reverse_aux-append (flat w) (flat_all 0x2C ws) (c ∷ r))

-- a quorum has as many parts as places
pub count_terms : (ws : Trees) → count (terms ws) ≡ places ws
unfolding places term count
count_terms no_place = refl
count_terms (place w ws) = ap suc (count_terms ws)

-- a tree has at least one code, and a character for each code
mutual
  unfolding onto term codes

  pub onto_long : (w : Tree) (r : List ℕ) → (1 ≤ length (codes (term w))) × (length (codes (term w)) + length r ≤ length (onto w r))
  onto_long (letter i) r = (omega arith, omega arith)
  onto_long star r = (omega arith, omega arith)
  onto_long low r = (omega arith, omega arith)
  onto_long (bracket w) r = let h = onto_long w (0x28 ∷ r) in (h.0, omega (arith, h.1))
  onto_long (signed s w) r = let h = onto_long w r in (omega arith, omega (arith, h.1))
  onto_long (join j p q) r =
      let h = onto_long p r in
      let i = onto_long q (joiner j ∷ onto p r) in
      let e : length (codes (join_terms j (term p) (term q))) ≡ suc (length (codes (term p)) + length (codes (term q))) = ap length (join_codes j (term p) (term q)) ∙ ap suc (length-append (codes (term p)) (codes (term q))) in
      (omega arith, omega (arith, h.1, i.1))
  onto_long (at_least k ws) r =
      let h = onto_all_long 0x28 ws (digits (places ws) (0x3A ∷ digits k r)) in
      (omega arith, omega (arith, h, digits_long (places ws) (0x3A ∷ digits k r), digits_long k r))

  pub onto_all_long : (c : ℕ) (ws : Trees) (r : List ℕ) → length (codes_all (terms ws)) + length r ≤ length (onto_all c ws r)
  onto_all_long c no_place r = omega arith
  onto_all_long c (place w ws) r =
      let h = onto_long w (c ∷ r) in
      omega (arith, h.1, onto_all_long 0x2C ws (onto w (c ∷ r)), length-append (codes (term w)) (codes_all (terms ws)))

-- a text has at least one character
pub flat_some : (w : Tree) → 1 ≤ length (flat w)
flat_some w =
    let e : length (flat w) ≡ length (onto w []) = sym (length-reverse (flat w)) ∙ ap length (sym (onto_flat w [])) in
    let g = onto_long w [] in
    omega (arith, g.0, g.1)

-- ---- what is read is a tree of the grammar

-- c is the last character of what `last_of` says that it is
abbrev pub Right : ℕ → ℕ → Last → Type 0
Right n c (sole w) = ((r : List ℕ) → c ∷ r ≡ onto w r) × Grammar n w × (rank w ≤ 0) × (length (codes (term w)) ≡ 1)
Right n c (side s) = c ≡ sign s
Right n c closing = c ≡ 0x29
Right n c other = Unit {0}

pub last_right : (n c : ℕ) → Right n c (last_of n c)
unfolding last_of onto term codes rank Grammar
last_right n c =
    cond_case (Right n c) (eqb c 0x2A) _ _ (λ q. (λ r. rw (eqb-true c 0x2A q), tt, omega arith, refl))
    (λ _. cond_case (Right n c) (eqb c 0x5F) _ _ (λ q. (λ r. rw (eqb-true c 0x5F q), tt, omega arith, refl))
    (λ _. cond_case (Right n c) (eqb c 0x3E) _ _ (λ q. eqb-true c 0x3E q)
    (λ _. cond_case (Right n c) (eqb c 0x3C) _ _ (λ q. eqb-true c 0x3C q)
    (λ _. cond_case (Right n c) (eqb c 0x29) _ _ (λ q. eqb-true c 0x29 q)
    (λ _. cond_case (Right n c) (leb 0x61 c && (ltb (c - 0x61) 12 && ltb (c - 0x61) n)) _ _ named (λ _. tt))))))
  where
    named : (leb 0x61 c && (ltb (c - 0x61) 12 && ltb (c - 0x61) n)) ≡ true → Right n c (sole (letter (c - 0x61)))
    named q =
        let h = and_right (leb 0x61 c) _ q in
        let l = leb-true 0x61 c (and_left (leb 0x61 c) _ q) in
        let e : c ≡ 0x61 + (c - 0x61) = omega arith in
        (λ r. ap (λ (k : ℕ). k ∷ r) e, (ltb-true _ _ (and_left (ltb (c - 0x61) 12) _ h), ltb-true _ _ (and_right (ltb (c - 0x61) 12) _ h)), omega arith, refl)

pub ends_in_lem : (c : ℕ) (left : List ℕ) → ends_in c left ≡ true → left ≡ c ∷ drop 1 left
ends_in_lem c [] e = absurd (false≢true e)
ends_in_lem c (x ∷ left) e = ap (λ (k : ℕ). k ∷ left) (eqb-true x c e)

-- s is the tree that was read, the last character first, and then the rest; the tree is of the grammar, and of rank at most l
abbrev Sound : ℕ → ℕ → List ℕ → Back → Type 0
Sound n l s (ended w left) = (s ≡ onto w left) × Grammar n w × (rank w ≤ l)
Sound n l s no_text = Unit {0}

-- the same of what is read around places, which stand behind s, with a closing bracket behind them
abbrev SoundAround : ℕ → Trees → List ℕ → Back → Type 0
SoundAround n ws s b = Sound n 0 (0x29 ∷ onto_all 0x2C ws s) b

-- what reads parts, and what reads around places, is sound
abbrev SoundParts : ℕ → (ℕ → List ℕ → Back) → Type 0
SoundParts n part = (l : ℕ) (t : List ℕ) → Sound n l t (part l t)

abbrev SoundArounds : ℕ → (Trees → List ℕ → Back) → Type 0
SoundArounds n around = (ws : Trees) → GrammarAll n ws → (t : List ℕ) → SoundAround n ws t (around ws t)

-- ---- numbers

-- the number that was read stands at the end of s, without a leading zero
abbrev pub NumberIn : List ℕ → Number → Type 0
NumberIn s (number k left) = s ≡ digits k left
NumberIn s no_number = Unit {0}

digit_true : (c : ℕ) → digit c ≡ true → (0x30 ≤ c) × (c ≤ 0x39)
digit_true c e = (leb-true 0x30 c (and_left (leb 0x30 c) _ e), leb-true c 0x39 (and_right (leb 0x30 c) _ e))

pub number-sound : (s : List ℕ) → NumberIn s (read_number s)
number-sound [] = tt
number-sound (c ∷ left) =
    cond_case (NumberIn (c ∷ left)) (digit c) _ _
    (λ d. let h = digit_true c d in
    cond_case (NumberIn (c ∷ left)) (ends_in 0x31 left) _ _
    (λ e.
    let k : 0x30 + (10 + (c - 0x30) - 10) ≡ c = omega (arith, h.0) in
    rw (le-ltb (10 + (c - 0x30)) 10 (omega arith), k) (ap (◌∷◌ c) (ends_in_lem 0x31 left e)))
    (λ _.
    let k : 0x30 + (c - 0x30) ≡ c = omega (arith, h.0) in
    rw (lt-ltb (c - 0x30) 10 (omega (arith, h.1)), k)))
    (λ _. tt)

-- there is a number exactly if the last character is a digit
abbrev pub Told : Number → Bool
Told (number k left) = true
Told no_number = false

pub number_told : (s : List ℕ) → ends_in_digit s ≡ Told (read_number s)
number_told [] = refl
number_told (c ∷ left) = by (digit c) (ends_in 0x31 left)
  where
    by : (a b : Bool) → a ≡ Told (cond a (cond b (number (10 + (c - 0x30)) (drop 1 left)) (number (c - 0x30) left)) no_number)
    by true true = refl
    by true false = refl
    by false b = refl

-- c is a digit
is_digit : (c : ℕ) → 0x30 ≤ c → c ≤ 0x39 → digit c ≡ true
is_digit c h k = and_intro (le-leb 0x30 c h) (le-leb c 0x39 k)

-- a number ends in a digit
digits_end : (k : ℕ) (r : List ℕ) → k < 20 → ends_in_digit (digits k r) ≡ true
digits_end k r h =
    cond_case (λ (s : List ℕ). ends_in_digit s ≡ true) (ltb k 10) ((0x30 + k) ∷ r) ((0x30 + (k - 10)) ∷ 0x31 ∷ r)
    (λ e. is_digit (0x30 + k) (omega arith) (omega (arith, ltb-true k 10 e)))
    (λ _. is_digit (0x30 + (k - 10)) (omega arith) (omega arith))

no_one : (r : List ℕ) → ends_in_digit r ≡ false → ends_in 0x31 r ≡ false
no_one [] h = refl
no_one (c ∷ r) h = false_of (eqb c 0x31) (λ e. true≢false (sym (is_digit c (omega (arith, eqb-true c 0x31 e)) (omega (arith, eqb-true c 0x31 e))) ∙ h))

-- and is read back, where no digit stands before it
number_digits : (k : ℕ) (r : List ℕ) → k < 20 → ends_in_digit r ≡ false → read_number (digits k r) ≡ number k r
number_digits k r h q =
    cond_case (λ (s : List ℕ). read_number s ≡ number k r) (ltb k 10) ((0x30 + k) ∷ r) ((0x30 + (k - 10)) ∷ 0x31 ∷ r)
    (λ e.
    let z : 0x30 + k - 0x30 ≡ k = omega arith in
    rw (is_digit (0x30 + k) (omega arith) (omega (arith, ltb-true k 10 e)), no_one r q, z))
    (λ e.
    let l : 10 ≤ k = omega (arith, ltb-false k 10 e) in
    let z : 10 + (0x30 + (k - 10) - 0x30) ≡ k = omega arith in
    rw (is_digit (0x30 + (k - 10)) (omega arith) (omega arith), z))

-- ---- around places

module _ (n : ℕ) (ws : Trees) (g : GrammarAll n ws) (left : List ℕ) where
  k_sound : (m : ℕ) (before : List ℕ) → left ≡ digits m before → (eqb m (places ws) && ends_in 0x3A before) ≡ true → (x : Number) → NumberIn (drop 1 before) x
      → Sound n 0 (0x29 ∷ onto_all 0x28 ws left) (on_number x (λ k rest. cond (quorate k m) (ended (at_least k ws) rest) no_text))
  unfolding onto rank Grammar
  k_sound m before h e (number k rest) i =
      let x : m ≡ places ws = eqb-true m (places ws) (and_left (eqb m (places ws)) _ e) in
      let y : before ≡ 0x3A ∷ digits k rest = ends_in_lem 0x3A before (and_right (eqb m (places ws)) _ e) ∙ ap (◌∷◌ 0x3A) i in
      cond_case (Sound n 0 (0x29 ∷ onto_all 0x28 ws left)) (quorate k m) _ _
      (λ q. (ap (λ (l : List ℕ). 0x29 ∷ onto_all 0x28 ws l) (h ∙ rw (x, y)), (rw x at q, g), omega arith))
      (λ _. tt)
  k_sound m before h e no_number i = tt

  m_sound : (x : Number) → NumberIn left x → Sound n 0 (0x29 ∷ onto_all 0x28 ws left) (on_number x (λ m before. cond (eqb m (places ws) && ends_in 0x3A before)
      (on_number (read_number (drop 1 before)) (λ k rest. cond (quorate k m) (ended (at_least k ws) rest) no_text)) no_text))
  m_sound (number m before) h =
      cond_case (Sound n 0 (0x29 ∷ onto_all 0x28 ws left)) (eqb m (places ws) && ends_in 0x3A before) _ _
      (λ e. k_sound m before h e (read_number (drop 1 before)) (number-sound (drop 1 before)))
      (λ _. tt)
  m_sound no_number h = tt

bracketed-sound : (n : ℕ) (ws : Trees) → GrammarAll n ws → (left : List ℕ) → Sound n 0 (0x29 ∷ onto_all 0x28 ws left) (bracketed ws left)
unfolding onto rank Grammar
bracketed-sound n no_place g left = tt
bracketed-sound n (place w no_place) g left = (refl, g.0, omega arith)
bracketed-sound n (place w (place v ws)) g left = tt

opened-sound : (n : ℕ) (ws : Trees) → GrammarAll n ws → (left : List ℕ) → Sound n 0 (0x29 ∷ onto_all 0x28 ws left) (opened ws left)
opened-sound n ws g left =
    cond_case (Sound n 0 (0x29 ∷ onto_all 0x28 ws left)) (ends_in_digit left) _ _
    (λ _. m_sound n ws g left (read_number left) (number-sound left)) (λ _. bracketed-sound n ws g left)

module _ (n : ℕ) (around : Trees → List ℕ → Back) (rs : SoundArounds n around) (ws : Trees) (g : GrammarAll n ws) where
  placed-sound : (w : Tree) → Grammar n w → (left : List ℕ) → SoundAround n ws (onto w left) (placed around ws w left)
  unfolding onto Grammar
  placed-sound w h left =
      cond_case (SoundAround n ws (onto w left)) (ends_in 0x2C left) _ _
      (λ e. rw (← ends_in_lem 0x2C left e) at (rs (place w ws) (h, g) (drop 1 left)))
      (λ _. cond_case (SoundAround n ws (onto w left)) (ends_in 0x28 left) _ _
      (λ e. rw (← ends_in_lem 0x28 left e) at (opened-sound n (place w ws) (h, g) (drop 1 left)))
      (λ _. tt))

  place_sound : (s : List ℕ) (b : Back) → Sound n 2 s b → SoundAround n ws s (leftward b (placed around ws))
  place_sound s (ended w left) h = rw h.0 (placed-sound w h.1 left)
  place_sound s no_text h = tt

module _ (n c : ℕ) (s : List ℕ) where
  side_sound : (d : Side) → c ≡ sign d → (b : Back) → Sound n 0 s b → Sound n 0 (c ∷ s) (leftward b (λ w left. ended (signed d w) left))
  unfolding onto rank Grammar
  side_sound d e (ended w left) h = (rw (e, h.0), (h.2, h.1), omega arith)
  side_sound d e no_text h = tt

  last_sound : (part : ℕ → List ℕ → Back) (around : Trees → List ℕ → Back) → SoundParts n part → SoundArounds n around → (m : Last) → Right n c m → Sound n 0 (c ∷ s) (read_last part around m s)
  unfolding onto Grammar
  last_sound part around ps rs (sole w) h = (h.0 s, h.1, h.2)
  last_sound part around ps rs (side d) h = side_sound d h (part 0 s) (ps 0 s)
  last_sound part around ps rs closing h = rw h (rs no_place tt s)
  last_sound part around ps rs other h = tt

atom_sound : (n : ℕ) (part : ℕ → List ℕ → Back) (around : Trees → List ℕ → Back) → SoundParts n part → SoundArounds n around → (s : List ℕ) → Sound n 0 s (read_atom n part around s)
atom_sound n part around ps rs [] = tt
atom_sound n part around ps rs (c ∷ s) = last_sound n c s part around ps rs (last_of n c) (last_right n c)

module _ (n : ℕ) (j : Joiner) (s : List ℕ) where
  left-sound : (q : Tree) (left : List ℕ) → Sound n (part_rank j) s (ended q (joiner j ∷ left)) → (b : Back) → Sound n (join_rank j) left b
      → Sound n (join_rank j) s (leftward b (λ p rest. ended (join j p q) rest))
  unfolding onto rank Grammar
  left-sound q left h (ended p rest) i =
      (h.0 ∙ ap (λ (t : List ℕ). onto q (joiner j ∷ t)) i.0, (i.2, omega (arith, h.2, part_rank_lem j), i.1, h.1), omega arith)
  left-sound q left h no_text i = tt

  list_sound : (part : List ℕ → Back) → ((t : List ℕ) → Sound n (join_rank j) t (part t)) → (b : Back) → Sound n (part_rank j) s b → Sound n (join_rank j) s (leftward b (joined_to j part))
  list_sound part ps (ended q left) h =
      cond_case (Sound n (join_rank j) s) (ends_in (joiner j) left) _ _
      (λ e. left-sound q (drop 1 left) (h.0 ∙ ap (onto q) (ends_in_lem (joiner j) left e), h.1, h.2) (part (drop 1 left)) (ps (drop 1 left)))
      (λ _. (h.0, h.1, omega (arith, h.2, part_rank_lem j)))
  list_sound part ps no_text h = tt

module _ (n : ℕ) (part : ℕ → List ℕ → Back) (around : Trees → List ℕ → Back) (ps : SoundParts n part) (rs : SoundArounds n around) (s : List ℕ) where
  both_sound : Sound n 1 s (read_both n part around s)
  both_sound = list_sound n both s (part 1) (ps 1) (read_atom n part around s) (atom_sound n part around ps rs s)

  either_sound : Sound n 2 s (read_either n part around s)
  either_sound = list_sound n either s (part 2) (ps 2) (read_both n part around s) both_sound

  more-sound : (l : ℕ) (b : Back) → Sound n 2 s b → Sound n (suc (suc l)) s b
  more-sound l (ended w left) h = (h.0, h.1, omega (arith, h.2))
  more-sound l no_text h = tt

  rank-sound : (l : ℕ) → Sound n l s (read_rank n part around l s)
  rank-sound zero = atom_sound n part around ps rs s
  rank-sound (suc zero) = both_sound
  rank-sound (suc (suc l)) = more-sound l (read_either n part around s) either_sound

mutual
  unfolding read_deep

  deep_sound : (deep n : ℕ) → SoundParts n (read_deep deep n)
  deep_sound zero n l s = tt
  deep_sound (suc deep) n l s = rank-sound n (read_deep deep n) (around_deep deep n) (λ m t. deep_sound deep n m t) (λ ws g t. around_sound deep n ws g t) s l

  around_sound : (deep n : ℕ) → SoundArounds n (around_deep deep n)
  around_sound zero n ws g s = tt
  around_sound (suc deep) n ws g s =
      place_sound n (around_deep deep n) (λ vs h t. around_sound deep n vs h t) ws g s (read_either n (read_deep deep n) (around_deep deep n) s)
      (either_sound n (read_deep deep n) (around_deep deep n) (λ m t. deep_sound deep n m t) (λ vs h t. around_sound deep n vs h t) s)

-- What is read is a tree of the grammar, and the characters before it are left.
pub back_sound : (n l : ℕ) (s : List ℕ) (w : Tree) (left : List ℕ) → read_back n l s ≡ ended w left → (s ≡ onto w left) × Grammar n w × (rank w ≤ l)
back_sound n l s w left e = rw e at (deep_sound (length s) n l s)

-- ---- the bound on how deep parts have parts is out of sight

-- what was read took at least one character
left_shorter : (n l : ℕ) (s : List ℕ) (w : Tree) (left : List ℕ) → Sound n l s (ended w left) → length left < length s
left_shorter n l s w left h = rw h.0 (let g = onto_long w left in omega (arith, g.0, g.1))

-- two readers of parts, and two around places, that agree on texts shorter than s
module _ (n : ℕ) (a b : ℕ → List ℕ → Back) (x y : Trees → List ℕ → Back) (s : List ℕ)
    (same : (l : ℕ) (t : List ℕ) → length t < length s → a l t ≡ b l t) (alike : (ws : Trees) (t : List ℕ) → length t < length s → x ws t ≡ y ws t) where
  joined_same : (j : Joiner) (q : Tree) (left : List ℕ) → length left < length s → joined_to j (a (join_rank j)) q left ≡ joined_to j (b (join_rank j)) q left
  joined_same j q [] h = refl
  joined_same j q (c ∷ left) h = rw (same (join_rank j) left (omega arith))

  list_same : (j : Joiner) (p q : Back) → p ≡ q → Sound n (part_rank j) s q → leftward p (joined_to j (a (join_rank j))) ≡ leftward q (joined_to j (b (join_rank j)))
  list_same j p (ended w left) e h = rw e (joined_same j w left (left_shorter n (part_rank j) s w left h))
  list_same j p no_text e h = rw e

  last_same : (left : List ℕ) → length left < length s → (m : Last) → read_last a x m left ≡ read_last b y m left
  last_same left h (sole w) = refl
  last_same left h (side d) = rw (same 0 left h)
  last_same left h closing = alike no_place left h
  last_same left h other = refl

  placed_same : (ws : Trees) (w : Tree) (left : List ℕ) → length left < length s → placed x ws w left ≡ placed y ws w left
  placed_same ws w [] h = refl
  placed_same ws w (c ∷ left) h = rw (alike (place w ws) left (omega arith))

  place_same : (ws : Trees) (p q : Back) → p ≡ q → Sound n 2 s q → leftward p (placed x ws) ≡ leftward q (placed y ws)
  place_same ws p (ended w left) e h = rw e (placed_same ws w left (left_shorter n 2 s w left h))
  place_same ws p no_text e h = rw e

-- the reader of a rank, and of a place
module _ (n : ℕ) (a b : ℕ → List ℕ → Back) (x y : Trees → List ℕ → Back) (bs : SoundParts n b) (ys : SoundArounds n y) where
  atom_same : (s : List ℕ) → ((l : ℕ) (t : List ℕ) → length t < length s → a l t ≡ b l t) → ((ws : Trees) (t : List ℕ) → length t < length s → x ws t ≡ y ws t)
      → read_atom n a x s ≡ read_atom n b y s
  atom_same [] h k = refl
  atom_same (c ∷ left) h k = last_same n a b x y (c ∷ left) h k left (omega arith) (last_of n c)

  module _ (s : List ℕ) (h : (l : ℕ) (t : List ℕ) → length t < length s → a l t ≡ b l t) (k : (ws : Trees) (t : List ℕ) → length t < length s → x ws t ≡ y ws t) where
    both_same : read_both n a x s ≡ read_both n b y s
    both_same = list_same n a b x y s h k both (read_atom n a x s) (read_atom n b y s) (atom_same s h k) (atom_sound n b y bs ys s)

    either_same : read_either n a x s ≡ read_either n b y s
    either_same = list_same n a b x y s h k either (read_both n a x s) (read_both n b y s) both_same (both_sound n b y bs ys s)

    rank_same : (l : ℕ) → read_rank n a x l s ≡ read_rank n b y l s
    rank_same zero = atom_same s h k
    rank_same (suc zero) = both_same
    rank_same (suc (suc l)) = either_same

    around_same : (ws : Trees) → read_place n a x ws s ≡ read_place n b y ws s
    around_same ws = place_same n a b x y s h k ws (read_either n a x s) (read_either n b y s) either_same (either_sound n b y bs ys s)

nothing_read : (n : ℕ) (part : ℕ → List ℕ → Back) (around : Trees → List ℕ → Back) (l : ℕ) → read_rank n part around l [] ≡ no_text
nothing_read n part around zero = refl
nothing_read n part around (suc zero) = refl
nothing_read n part around (suc (suc l)) = refl

-- any bound that is at least the number of characters gives the same
mutual
  unfolding read_deep

  deep_enough : (k i n l : ℕ) (s : List ℕ) → length s ≤ k → length s ≤ i → read_deep k n l s ≡ read_deep i n l s
  deep_enough zero zero n l s h g = refl
  deep_enough zero (suc i) n l [] h g = sym (nothing_read n (read_deep i n) (around_deep i n) l)
  deep_enough zero (suc i) n l (c ∷ s) h g = absurd (omega arith)
  deep_enough (suc k) zero n l [] h g = nothing_read n (read_deep k n) (around_deep k n) l
  deep_enough (suc k) zero n l (c ∷ s) h g = absurd (omega arith)
  deep_enough (suc k) (suc i) n l s h g =
      rank_same n (read_deep k n) (read_deep i n) (around_deep k n) (around_deep i n) (deep_sound i n) (around_sound i n) s
      (λ m t f. deep_enough k i n m t (omega arith) (omega arith)) (λ ws t f. around_enough k i n ws t (omega arith) (omega arith)) l

  around_enough : (k i n : ℕ) (ws : Trees) (s : List ℕ) → length s ≤ k → length s ≤ i → around_deep k n ws s ≡ around_deep i n ws s
  around_enough zero zero n ws s h g = refl
  around_enough zero (suc i) n ws [] h g = refl
  around_enough zero (suc i) n ws (c ∷ s) h g = absurd (omega arith)
  around_enough (suc k) zero n ws [] h g = refl
  around_enough (suc k) zero n ws (c ∷ s) h g = absurd (omega arith)
  around_enough (suc k) (suc i) n ws s h g =
      around_same n (read_deep k n) (read_deep i n) (around_deep k n) (around_deep i n) (deep_sound i n) (around_sound i n) s
      (λ m t f. deep_enough k i n m t (omega arith) (omega arith)) (λ vs t f. around_enough k i n vs t (omega arith) (omega arith)) ws

rank_step : (n l : ℕ) (s : List ℕ) → read_back n l s ≡ read_rank n (read_back n) (around_back n) l s
unfolding read_deep
rank_step n l [] = sym (nothing_read n (read_back n) (around_back n) l)
rank_step n l (c ∷ s) =
    rank_same n (read_deep (length s) n) (read_back n) (around_deep (length s) n) (around_back n) (λ m t. deep_sound (length t) n m t) (λ ws g t. around_sound (length t) n ws g t) (c ∷ s)
    (λ m t g. deep_enough (length s) (length t) n m t (omega arith) (omega arith)) (λ ws t g. around_enough (length s) (length t) n ws t (omega arith) (omega arith)) l

place_step : (n : ℕ) (ws : Trees) (s : List ℕ) → around_back n ws s ≡ read_place n (read_back n) (around_back n) ws s
unfolding read_deep
place_step n ws [] = refl
place_step n ws (c ∷ s) =
    around_same n (read_deep (length s) n) (read_back n) (around_deep (length s) n) (around_back n) (λ m t. deep_sound (length t) n m t) (λ vs g t. around_sound (length t) n vs g t) (c ∷ s)
    (λ m t g. deep_enough (length s) (length t) n m t (omega arith) (omega arith)) (λ vs t g. around_enough (length s) (length t) n vs t (omega arith) (omega arith)) ws

-- How an atom and a list are read.
pub atom_none : (n : ℕ) → read_back n 0 [] ≡ no_text
atom_none n = rank_step n 0 []

pub atom_step : (n c : ℕ) (left : List ℕ) → read_back n 0 (c ∷ left) ≡ read_last (read_back n) (around_back n) (last_of n c) left
atom_step n c left = rank_step n 0 (c ∷ left)

pub list_step : (n : ℕ) (j : Joiner) (s : List ℕ) → read_back n (join_rank j) s ≡ leftward (read_back n (part_rank j) s) (joined_to j (read_back n (join_rank j)))
list_step n both s = rank_step n 1 s ∙ ap (λ (b : Back). leftward b (joined_to both (read_back n 1))) (sym (rank_step n 0 s))
list_step n either s = rank_step n 2 s ∙ ap (λ (b : Back). leftward b (joined_to either (read_back n 2))) (sym (rank_step n 1 s))

pub around_step : (n : ℕ) (ws : Trees) (s : List ℕ) → around_back n ws s ≡ leftward (read_back n 2 s) (placed (around_back n) ws)
around_step n ws s = place_step n ws s ∙ ap (λ (b : Back). leftward b (placed (around_back n) ws)) (sym (rank_step n 2 s))

-- ---- a tree's text is read as that tree

-- what stands before a text of rank at most l does not go on with it
pub record Stops (l : ℕ) (r : List ℕ) : Type 0 where
  pub no_digit : ends_in_digit r ≡ false
  pub no_joiner : (j : Joiner) → join_rank j ≤ l → ends_in (joiner j) r ≡ false

joiner_stops : (i j : Joiner) (r : List ℕ) → join_rank i ≤ part_rank j → ends_in (joiner i) (joiner j ∷ r) ≡ false
joiner_stops both both r h = absurd (omega arith)
joiner_stops both either r h = refl
joiner_stops either both r h = absurd (omega arith)
joiner_stops either either r h = absurd (omega arith)

joiner_stop : (j : Joiner) (r : List ℕ) → Stops (part_rank j) (joiner j ∷ r)
joiner_stop both r = record { no_digit = refl; no_joiner = λ i m. joiner_stops i both r m }
joiner_stop either r = record { no_digit = refl; no_joiner = λ i m. joiner_stops i either r m }

-- neither an opening bracket nor a comma goes on with an either-list
bracket_stop : (r : List ℕ) → Stops 2 (0x28 ∷ r)
bracket_stop r = record { no_digit = refl; no_joiner = elim [ both ↦ λ _. refl | either ↦ λ _. refl ] }

comma_stop : (r : List ℕ) → Stops 2 (0x2C ∷ r)
comma_stop r = record { no_digit = refl; no_joiner = elim [ both ↦ λ _. refl | either ↦ λ _. refl ] }

module _ (n : ℕ) (s : List ℕ) (w : Tree) (r : List ℕ) where
  up_one : (j : Joiner) → read_back n (part_rank j) s ≡ ended w r → ends_in (joiner j) r ≡ false → read_back n (join_rank j) s ≡ ended w r
  up_one j e h = list_step n j s ∙ rw (e, h)

  -- read at a rank, it is read at the ranks above
  up : (k l : ℕ) → k ≤ l → l ≤ 2 → Stops l r → read_back n k s ≡ ended w r → read_back n l s ≡ ended w r
  up zero zero a b h e = e
  up zero (suc zero) a b h e = up_one both e (h.no_joiner both (omega arith))
  up zero (suc (suc zero)) a b h e = up_one either (up_one both e (h.no_joiner both (omega arith))) (h.no_joiner either (omega arith))
  up (suc zero) (suc zero) a b h e = e
  up (suc zero) (suc (suc zero)) a b h e = up_one either e (h.no_joiner either (omega arith))
  up (suc (suc zero)) (suc (suc zero)) a b h e = e
  up (suc k) zero a b h e = absurd (omega arith)
  up (suc (suc k)) (suc zero) a b h e = absurd (omega arith)
  up (suc (suc (suc k))) (suc (suc zero)) a b h e = absurd (omega arith)
  up k (suc (suc (suc l))) a b h e = absurd (omega arith)

last_letter : (n i : ℕ) → i < 12 → i < n → last_of n (0x61 + i) ≡ sole (letter i)
unfolding last_of
last_letter n i h k =
    let e : 0x61 + i - 0x61 ≡ i = omega arith in
    rw (
      ne_eqb (0x61 + i) 0x2A (λ z. omega arith),
      ne_eqb (0x61 + i) 0x5F (λ z. omega arith),
      ne_eqb (0x61 + i) 0x3E (λ z. omega arith),
      ne_eqb (0x61 + i) 0x3C (λ z. omega arith),
      ne_eqb (0x61 + i) 0x29 (λ z. omega arith),
      le-leb 0x61 (0x61 + i) (omega arith),
      e,
      lt-ltb i 12 h,
      lt-ltb i n k,
    )

-- no joiner's rank is 0
none_below : (i : Joiner) (r : List ℕ) → join_rank i ≤ 0 → ends_in (joiner i) r ≡ false
none_below both r m = absurd (omega arith)
none_below either r m = absurd (omega arith)

last_sign : (n : ℕ) (s : Side) → last_of n (sign s) ≡ side s
unfolding last_of
last_sign n confidentiality = refl
last_sign n integrity = refl

join_parts : (n : ℕ) (j : Joiner) (p q : Tree) (s t r : List ℕ) → read_back n (part_rank j) s ≡ ended q (joiner j ∷ t) → read_back n (join_rank j) t ≡ ended p r
    → read_back n (join_rank j) s ≡ ended (join j p q) r
join_parts n both p q s t r e h = list_step n both s ∙ rw (e, h)
join_parts n either p q s t r e h = list_step n either s ∙ rw (e, h)

-- before the places of a quorum its numbers are read
numbered_ends : (k : ℕ) (ws : Trees) (r : List ℕ) → quorate k (places ws) ≡ true → ends_in_digit r ≡ false → opened ws (digits (places ws) (0x3A ∷ digits k r)) ≡ ended (at_least k ws) r
numbered_ends k ws r q d =
    let h = quorate_true k (places ws) q in
    let m : places ws < 20 = omega (arith, h.2) in
    let l : k < 20 = omega (arith, h.1, h.2) in
    rw (digits_end (places ws) (0x3A ∷ digits k r) m, number_digits (places ws) (0x3A ∷ digits k r) m refl, eq-eqb (places ws) (places ws) refl, number_digits k r l d, q)

-- places that stand after c are read as these, and then what stands before the first of them
abbrev ReadPlaces : ℕ → ℕ → Trees → List ℕ → Type 0
ReadPlaces n c no_place r = Unit {0}
ReadPlaces n c (place w ws) r = around_back n no_place (onto_all c (place w ws) r) ≡ placed (around_back n) ws w (c ∷ r)

place_before : (n : ℕ) (ws : Trees) (w : Tree) (r : List ℕ) → read_back n 2 (onto w r) ≡ ended w r → ReadPlaces n 0x2C ws (onto w r)
    → around_back n no_place (onto_all 0x2C ws (onto w r)) ≡ placed (around_back n) ws w r
unfolding onto
place_before n no_place w r e h = around_step n no_place (onto w r) ∙ rw e
place_before n (place v ws) w r e h = h ∙ around_step n (place v ws) (onto w r) ∙ rw e

quorum_around : (n k : ℕ) (ws : Trees) (r : List ℕ) → quorate k (places ws) ≡ true → ends_in_digit r ≡ false → ReadPlaces n 0x28 ws (digits (places ws) (0x3A ∷ digits k r))
    → around_back n no_place (onto_all 0x28 ws (digits (places ws) (0x3A ∷ digits k r))) ≡ ended (at_least k ws) r
unfolding places
quorum_around n k no_place r q d h = absurd (omega (arith, quorate_true k 0 q))
quorum_around n k (place w ws) r q d h = h ∙ numbered_ends k (place w ws) r q d

-- The text of a tree of the grammar is read as that tree, whatever stands before it that does not go on with it.
mutual
  unfolding onto rank Grammar last_of

  pub back_onto : (n : ℕ) (w : Tree) (r : List ℕ) (l : ℕ) → l ≤ 2 → Grammar n w → rank w ≤ l → Stops l r → read_back n l (onto w r) ≡ ended w r
  back_onto n (letter i) r l k g h s = up n ((0x61 + i) ∷ r) (letter i) r 0 l h k s (atom_step n (0x61 + i) r ∙ rw (last_letter n i g.0 g.1))
  back_onto n star r l k g h s = up n (0x2A ∷ r) star r 0 l h k s (atom_step n 0x2A r)
  back_onto n low r l k g h s = up n (0x5F ∷ r) low r 0 l h k s (atom_step n 0x5F r)
  back_onto n (bracket w) r l k g h s =
      up n (0x29 ∷ onto w (0x28 ∷ r)) (bracket w) r 0 l h k s
      (atom_step n 0x29 (onto w (0x28 ∷ r)) ∙ place_before n no_place w (0x28 ∷ r) (back_onto n w (0x28 ∷ r) 2 (omega arith) g (rank_most w) (bracket_stop r)) tt ∙ rw s.no_digit)
  back_onto n (signed d w) r l k g h s =
      up n (sign d ∷ onto w r) (signed d w) r 0 l h k s
      (atom_step n (sign d) (onto w r) ∙ rw (last_sign n d, back_onto n w r 0 (omega arith) g.1 g.0 (record { no_digit = s.no_digit; no_joiner = λ i m. none_below i r m })))
  back_onto n (join j p q) r l k g h s =
      up n (onto q (joiner j ∷ onto p r)) (join j p q) r (join_rank j) l h k s
      (join_parts n j p q (onto q (joiner j ∷ onto p r)) (onto p r) r
      (back_onto n q (joiner j ∷ onto p r) (part_rank j) (omega (arith, part_rank_lem j)) g.3 (omega (arith, g.1, part_rank_lem j)) (joiner_stop j (onto p r)))
      (back_onto n p r (join_rank j) (omega arith) g.2 g.0 (record { no_digit = s.no_digit; no_joiner = λ i m. s.no_joiner i (omega arith) })))
  back_onto n (at_least k ws) r l b g h s =
      let before = digits (places ws) (0x3A ∷ digits k r) in
      up n (onto (at_least k ws) r) (at_least k ws) r 0 l h b s
      (atom_step n 0x29 (onto_all 0x28 ws before) ∙ quorum_around n k ws r g.0 s.no_digit (places_onto n ws g.1 0x28 before (bracket_stop before)))

  places_onto : (n : ℕ) (ws : Trees) → GrammarAll n ws → (c : ℕ) (r : List ℕ) → Stops 2 (c ∷ r) → ReadPlaces n c ws r
  places_onto n no_place g c r s = tt
  places_onto n (place w ws) g c r s =
      place_before n ws w (c ∷ r) (back_onto n w (c ∷ r) 2 (omega arith) g.0 (rank_most w) s) (places_onto n ws g.1 0x2C (onto w (c ∷ r)) (comma_stop (onto w (c ∷ r))))

-- the whole text of a tree is read as that tree
pub whole_text_lem : (n : ℕ) (w : Tree) → Grammar n w → read_back n 2 (reverse (flat w)) ≡ ended w []
whole_text_lem n w g = ap (read_back n 2) (sym (onto_flat w [])) ∙ back_onto n w [] 2 (omega arith) g (rank_most w) (record { no_digit = refl; no_joiner = λ j m. refl })

-- and a tree that is read, with nothing left, has that text
pub text_whole : (n : ℕ) (s : List ℕ) (w : Tree) → read_back n 2 (reverse s) ≡ ended w [] → (flat w ≡ s) × Grammar n w
text_whole n s w e =
    let g = back_sound n 2 (reverse s) w [] e in
    (sym (reverse-reverse (flat w)) ∙ ap reverse (sym (onto_flat w []) ∙ sym g.0) ∙ reverse-reverse s, g.1)

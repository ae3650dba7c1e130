-- How the reading of a text goes from character to character, and what it leaves: a law for each return of the readers. Assumes nothing.
use Prim.Native.Nat.{ℕ, suc, ◌+◌, ◌-◌, ◌<◌, ◌≤◌}
use native.Mathlib.Omega.{arith}
use native.Mathlib.Numerals.{add-one}
use mathlib.Core.Path.{◌≡◌, refl, sym, ap, ◌∙◌}
use mathlib.Core.Bool.{true, false, cond, ◌&&◌, and-true}
use mathlib.Core.List.{List, [], ◌∷◌, ◌++◌, append_assoc, reverse, reverse-append}
use lib.Dec.{eqb, leb, ltb}
use lib.ListN.{length, take, drop, get_or, length-append, drop_of_length-le}
use lib.Pointwise.{pointwise}
use lib.Seq.{take-suc, take-length, drop-cons}
use borrow.Author.Tests.{ne_eqb}
use Rattle.std.specs.Prelude.{Option, Some, None, Ok, Err, MatchOption}
use Rattle.std.specs.Option.{ok_or}
use Rattle.refusals.specs.declared.Refusal.{Refusal}
use Rattle.refusals.specs.declared.Refusal.TheVariants.{NoText}
use Rattle.model.specs.Sides.{Side}
use Rattle.model.specs.Terms.{project_code, codes, codes_all}
use Rattle.model.specs.Texts.{Joiner, both, either, Tree, letter, signed, join, Trees, no_place, place, places, joiner, term, terms, join_rank}
use Rattle.model.specs.Notation.{Back, ended, no_text, leftward, Last, sole, side, closing, other, last_of, ends_in, opened, placed, joined_to, read_last, read_back, around_back}
use Rattle.model.proofs.Texts.{join_code, part_rank, join_codes, onto_long, Right, last_right, ends_in_lem, back_sound, atom_none, atom_step, list_step, around_step}
use Rattle.terms.specs.declared.Joiner.{Joiner as CodeJoiner}
use Rattle.terms.specs.declared.Joiner.TheVariants.{Both, Either}
use Rattle.terms.specs.Joiners.{kind, joiner_code}
use Rattle.notation.specs.Reading.{ending_of, State, state, past, ReadOff, Read, ReadBefore}
use Rattle.notation.specs.declared.Ending.TheVariants.{Sole, Sign, Closing, Other}

-- ---- the last character first

pub last_first : (t : List ℕ) → 1 ≤ length t → reverse t ≡ get_or t (length t - 1) 0 ∷ reverse (take (length t - 1) t)
last_first t h =
    let k : suc (length t - 1) ≡ length t = omega arith in
    ap reverse (sym (take-length t) ∙ ap (λ (n : ℕ). take n t) (sym k) ∙ take-suc t (length t - 1) 0 (omega arith)) ∙ reverse-append (take (length t - 1) t) (get_or t (length t - 1) 0 ∷ [])

last_alone : (t : List ℕ) → 1 ≤ length t → drop (length t - 1) t ≡ get_or t (length t - 1) 0 ∷ []
last_alone t h = drop-cons t (length t - 1) 0 (omega arith) ∙ ap (◌∷◌ (get_or t (length t - 1) 0)) (drop_of_length-le t {i = suc (length t - 1)} (omega arith))

pub ends_same : (t : List ℕ) (c : ℕ) → pointwise eqb (drop (length t - 1) t) (c ∷ []) ≡ ends_in c (reverse t)
ends_same [] c = refl
ends_same (x ∷ t) c = rw (last_alone (x ∷ t) (omega arith), last_first (x ∷ t) (omega arith)) (and-true (eqb (get_or (x ∷ t) (length (x ∷ t) - 1) 0) c))

pub drop_last : (t : List ℕ) → drop 1 (reverse t) ≡ reverse (take (length t - 1) t)
drop_last [] = refl
drop_last (x ∷ t) = ap (drop 1) (last_first (x ∷ t) (omega arith))

-- ---- what is handed on

-- an answer that says something, and so something else
pub handed : {R P P' : Type 0} {Q Q' : R → Type 0} (r : Option R) → MatchOption r P Q → (P → P') → ((x : R) → Q x → Q' x) → MatchOption r P' Q'
handed None h f g = f h
handed (Some x) h f g = g x h

-- and is one character
pub one_less : (s : List ℕ) (c : ℕ) → ends_in c s ≡ true → length s ≡ suc (length (drop 1 s))
one_less s c e = ap length (ends_in_lem c s e)

pub passed_less : (c : ℕ) (mid on : State) → ends_in c mid.left ≡ true → on ≡ past mid → (length mid.left ≡ suc (length on.left)) × (length on.codes ≡ length mid.codes)
passed_less c mid on e p = rw p (one_less mid.left c e, refl)

pub read_ok : (b : Back) (before after : State) (r : Option (Unit {0})) (u : Unit {0}) → ok_or r NoText ≡ Ok u → Read b before after r → ReadOff b before.n before.codes after
read_ok b before after None u e h = cc
read_ok b before after (Some v) u e h = h

pub read_err : (b : Back) (before after : State) (r : Option (Unit {0})) (why : Refusal) → ok_or r NoText ≡ Err why → Read b before after r → (b ≡ no_text) × (why ≡ NoText)
read_err b before after None why e h = (h, cc)
read_err b before after (Some v) why e h = cc

-- ---- how long what was read is: a tree has a code, and a character for each

pub paid : (n l m : ℕ) (s rest : List ℕ) (after : State) → ReadOff (read_back n l s) m rest after
    → (length after.codes + length after.left ≤ length s + length rest) × (length rest < length after.codes)
paid n l m s rest after r =
    let w = r.tree in
    let h = back_sound n l s w after.left r.is in
    let g = onto_long w after.left in
    let a : length after.codes ≡ length (codes (term w)) + length rest = ap length r.stored ∙ length-append (codes (term w)) rest in
    (omega (arith, a, g.1, ap length h.0), omega (arith, a, g.0))

-- ---- what the last character is

record IsSole (code : ℕ) (m : Last) : Type 0 where
  tree : Tree
  is : m ≡ sole tree
  coded : codes (term tree) ≡ code ∷ []

one_code : (l : List ℕ) (code : ℕ) → length l ≡ 1 → get_or l 0 0 ≡ code → l ≡ code ∷ []
one_code [] code h e = absurd (omega arith)
one_code (x ∷ []) code h e = rw e
one_code (x ∷ y ∷ l) code h e = absurd (omega arith)

from_sole : (n c code : ℕ) (m : Last) → Right n c m → ending_of m ≡ Sole code → IsSole code m
from_sole n c code (sole w) h e = record { tree = w; is = refl; coded = one_code (codes (term w)) code h.3 (cc) }
from_sole n c code (side s) h e = absurd (let z : ◌≡◌ {A = ℕ} 0 1 = cc in omega arith)
from_sole n c code closing h e = absurd (let z : ◌≡◌ {A = ℕ} 0 1 = cc in omega arith)
from_sole n c code other h e = absurd (let z : ◌≡◌ {A = ℕ} 0 1 = cc in omega arith)

record IsSign (code : ℕ) (m : Last) : Type 0 where
  to : Side
  is : m ≡ side to
  coded : project_code to ≡ code

from-sign : (code : ℕ) (m : Last) → ending_of m ≡ Sign code → IsSign code m
from-sign code (sole w) e = absurd (let z : ◌≡◌ {A = ℕ} 0 1 = cc in omega arith)
from-sign code (side s) e = record { to = s; is = refl; coded = cc }
from-sign code closing e = absurd (let z : ◌≡◌ {A = ℕ} 0 1 = cc in omega arith)
from-sign code other e = absurd (let z : ◌≡◌ {A = ℕ} 0 1 = cc in omega arith)

from_closing : (m : Last) → ending_of m ≡ Closing → m ≡ closing
from_closing (sole w) e = cc
from_closing (side s) e = cc
from_closing closing e = refl
from_closing other e = cc

from-other : (m : Last) → ending_of m ≡ Other → m ≡ other
from-other (sole w) e = cc
from-other (side s) e = cc
from-other closing e = cc
from-other other e = refl

-- a character that is no star, no low line, no sign and no closing bracket
pub last_plain : (n c : ℕ) → (c ≡ 0x2A → ⊥) → (c ≡ 0x5F → ⊥) → (c ≡ 0x3E → ⊥) → (c ≡ 0x3C → ⊥) → (c ≡ 0x29 → ⊥)
    → last_of n c ≡ cond (leb 0x61 c && (ltb (c - 0x61) 12 && ltb (c - 0x61) n)) (sole (letter (c - 0x61))) other
unfolding last_of
last_plain n c a b d e f = rw (ne_eqb c 0x2A a, ne_eqb c 0x5F b, ne_eqb c 0x3E d, ne_eqb c 0x3C e, ne_eqb c 0x29 f)

-- ---- an atom, by its last character

pub atom_end : (n : ℕ) (t : List ℕ) → length t < 1 → read_back n 0 (reverse t) ≡ no_text
atom_end n [] h = atom_none n
atom_end n (x ∷ t) h = absurd (omega arith)

module _ (n c : ℕ) (s : List ℕ) where
  abbrev last : Last
  last = last_of n c

  last_at : (m : Last) → last ≡ m → read_back n 0 (c ∷ s) ≡ read_last (read_back n) (around_back n) m s
  last_at m e = atom_step n c s ∙ ap (λ (x : Last). read_last (read_back n) (around_back n) x s) e

  module _ (rest : List ℕ) (after : State) where
    pub atom_sole : (code : ℕ) → ending_of last ≡ Sole code → after ≡ state n s (code ∷ rest) → length s + suc (length rest) ≤ 256 → ReadOff (read_back n 0 (c ∷ s)) n rest after
    atom_sole code e a room =
        let m = from_sole n c code last (last_right n c) e in
        rw a (record { tree = m.tree; is = last_at (sole m.tree) m.is; stored = rw m.coded; same = refl; room = room })

    pub sign-ended : (code : ℕ) → ending_of last ≡ Sign code → (mid : State) → ReadOff (read_back n 0 s) n rest mid → after ≡ state mid.n mid.left (code ∷ mid.codes)
        → length mid.left + suc (length mid.codes) ≤ 256 → ReadOff (read_back n 0 (c ∷ s)) n rest after
    unfolding term codes
    sign-ended code e mid r a room =
        let m = from-sign code last e in
        rw a (record { tree = signed m.to r.tree; is = last_at (side m.to) m.is ∙ rw r.is; stored = rw (r.stored, m.coded); same = r.same; room = room })

    -- a closing bracket: no place is read yet
    pub closing_read : ending_of last ≡ Closing → (r : Option (Unit {0})) → ReadBefore (λ ws. around_back n ws s) 0 (state n s rest) after r → Read (read_back n 0 (c ∷ s)) (state n (c ∷ s) rest) after r
    unfolding places term codes
    closing_read e r h =
        let i = last_at closing (from_closing last e) in
        handed r h (λ k. i ∙ k no_place refl) (λ u k. rw i (k no_place rest refl refl))

  pub sign_none : (code : ℕ) → ending_of last ≡ Sign code → read_back n 0 s ≡ no_text → read_back n 0 (c ∷ s) ≡ no_text
  sign_none code e g = let m = from-sign code last e in last_at (side m.to) m.is ∙ rw g

  pub atom_other : ending_of last ≡ Other → read_back n 0 (c ∷ s) ≡ no_text
  atom_other e = last_at other (from-other last e)

-- ---- a list, by what stands before its last part

pub code_same : (j : CodeJoiner) → joiner_code j ≡ join_code (kind j)
code_same Both = refl
code_same Either = refl

pub last_rank : (j : Joiner) → join_rank j - 1 ≡ part_rank j
last_rank both = refl
last_rank either = refl

module _ (j : Joiner) (before : State) where
  abbrev listed : Back
  listed = read_back before.n (join_rank j) before.left

  pub list_none : read_back before.n (part_rank j) before.left ≡ no_text → listed ≡ no_text
  list_none e = list_step before.n j before.left ∙ rw e

  module _ (mid : State) (r : ReadOff (read_back before.n (part_rank j) before.left) before.n before.codes mid) where
    list_at : listed ≡ joined_to j (read_back before.n (join_rank j)) r.tree mid.left
    list_at = list_step before.n j before.left ∙ rw r.is

    pub list_alone : ends_in (joiner j) mid.left ≡ false → ReadOff listed before.n before.codes mid
    list_alone h = record { tree = r.tree; is = list_at ∙ rw h; stored = r.stored; same = r.same; room = r.room }

    module _ (e : ends_in (joiner j) mid.left ≡ true) (on : State) (p : on ≡ past mid) where
      list_on : listed ≡ leftward (read_back on.n (join_rank j) on.left) (λ w left. ended (join j w r.tree) left)
      list_on = list_at ∙ rw (e, p, r.same)

      pub list_more_none : read_back on.n (join_rank j) on.left ≡ no_text → listed ≡ no_text
      list_more_none f = list_on ∙ rw f

      pub list_more : (far after : State) → ReadOff (read_back on.n (join_rank j) on.left) on.n on.codes far → after ≡ state far.n far.left (join_code j ∷ far.codes)
          → length far.left + suc (length far.codes) ≤ 256 → ReadOff listed before.n before.codes after
      unfolding term
      list_more far after k a room =
          let q : on.codes ≡ mid.codes = rw p in
          let m : on.n ≡ mid.n = rw p in
          rw a (record {
            tree = join j k.tree r.tree;
            is = list_on ∙ rw k.is;
            stored = rw (k.stored, q, r.stored, join_codes j (term k.tree) (term r.tree)) (ap (◌∷◌ (join_code j)) (sym (append_assoc (codes (term k.tree)) (codes (term r.tree)) before.codes)));
            same = k.same ∙ m ∙ r.same;
            room = room;
          })

-- ---- one place more of a bracket or quorum

module _ (many : ℕ) (before : State) where
  abbrev Around : Trees → Back
  Around ws = around_back before.n ws before.left

  pub place_none : read_back before.n 2 before.left ≡ no_text → (ws : Trees) → places ws ≡ many → Around ws ≡ no_text
  place_none h ws q = around_step before.n ws before.left ∙ rw h

  module _ (mid : State) (r : ReadOff (read_back before.n 2 before.left) before.n before.codes mid) where
    placed_at : (ws : Trees) → Around ws ≡ placed (around_back before.n) ws r.tree mid.left
    placed_at ws = around_step before.n ws before.left ∙ rw r.is

    -- what stands before the place is read as `next` says of all places
    place_more : (next : Trees → Back) → ((ws : Trees) → Around ws ≡ next (place r.tree ws)) → (after : State) (x : Option (Unit {0}))
        → ReadBefore next (many + 1) (past mid) after x → ReadBefore Around many before after x
    unfolding places term codes
    place_more next is after x h =
        handed x h (λ k ws q. is ws ∙ k (place r.tree ws) (ap suc q ∙ sym (add-one many))) (λ u k ws rest q e.
        let w = codes (term r.tree) in
        let y = k (place r.tree ws) rest (ap suc q ∙ sym (add-one many)) (r.stored ∙ ap (λ (l : List ℕ). w ++ l) e ∙ sym (append_assoc w (codes_all (terms ws)) rest)) in
        rw (is ws) (record { tree = y.tree; is = y.is; stored = y.stored; same = y.same ∙ r.same; room = y.room }))

    pub place_comma : ends_in 0x2C mid.left ≡ true → (on after : State) (x : Option (Unit {0})) → on ≡ past mid
        → ReadBefore (λ ws. around_back on.n ws on.left) (many + 1) on after x → ReadBefore Around many before after x
    place_comma e on after x p h =
        place_more (λ ws. around_back mid.n ws (drop 1 mid.left)) (λ ws. placed_at ws ∙ rw (e, r.same)) after x (rw p at h)

    module _ (e : ends_in 0x2C mid.left ≡ false) where
      pub place_open : ends_in 0x28 mid.left ≡ true → (on after : State) (x : Option (Unit {0})) → on ≡ past mid
          → ReadBefore (λ ws. opened ws on.left) (many + 1) on after x → ReadBefore Around many before after x
      place_open h on after x p k = place_more (λ ws. opened ws (drop 1 mid.left)) (λ ws. placed_at ws ∙ rw (e, h)) after x (rw p at k)

      pub place_other : ends_in 0x28 mid.left ≡ false → (ws : Trees) → places ws ≡ many → Around ws ≡ no_text
      place_other h ws q = placed_at ws ∙ rw (e, h)

-- Which texts are read and which terms are written, and with which refusals (document 02, K1). Assumes nothing.
use Prim.Native.Nat.{ℕ, ◌≤◌, ◌<◌}
use native.Mathlib.Omega.{arith}
use mathlib.Core.Logic.{◌⊎◌, inl, inr}
use mathlib.Core.Path.{◌≡◌, refl, sym, ap, ◌∙◌}
use mathlib.Core.Bool.{Bool, true, false, ◌&&◌}
use mathlib.Core.List.{List, [], ◌∷◌, ◌++◌, reverse}
use lib.Dec.{eqb, leb}
use lib.ListN.{length}
use borrow.Author.Tests.{leb-true, leb-false, eqb-true, eq-eqb}
use Rattle.model.specs.Readings.{Reading, accepted, refused, require, and_then}
use Rattle.model.specs.Terms.{Term, codes, job_size, read_term}
use Rattle.model.specs.Texts.{Tree, flat, term, fewest}
use Rattle.model.specs.Notation.{Back, ended, no_text, read_back, whole_text, text_length, text_codes, term_text}
use Rattle.model.proofs.Truth.{clash, and_left, and_right}
use Rattle.model.proofs.Accepted.{job_true, job_false, job_size_lem}
use Rattle.model.proofs.Reading.{accepted_codes, codes_unique}
use Rattle.model.proofs.Refusals.{refused_number}
use Rattle.model.proofs.Texts.{flat_some, whole_text_lem, text_whole}
use Rattle.model.proofs.Bracketed.{fewest_term, fewest_grammar}
use Rattle.model.proofs.Notation.{term_written, accepted_long}
use Rattle.requests.specs.Notation.{Says, Asked, AcceptsTheLanguage, OneTree, NoJob, SaysTooMuch, ReaderRefuses, WriterRefuses, EveryTermIsWritten, WrittenFor, ReadsBack, brackets_in, FewestBrackets, AtMost192}
use Rattle.requests.proofs.Fewest.{fewest_least, tree_names}

pub one_tree : OneTree
one_tree n w v g h e =
    let x : ended w [] ≡ ended v [] = sym (whole_text_lem n w g) ∙ ap (λ (s : List ℕ). read_back n 2 (reverse s)) e ∙ whole_text_lem n v h in
    cc

-- two trees with this text say the same codes
says_once : (n : ℕ) (text cs ds : List ℕ) → Says n text cs → Says n text ds → cs ≡ ds
says_once n text cs ds a b =
    let e = one_tree n a.tree b.tree a.of b.of (a.written ∙ sym b.written) in
    sym a.codes_are ∙ ap (λ (w : Tree). codes (term w)) e ∙ b.codes_are

-- ---- the answer to a text, by what applies

require_case : {A : Type 0} (P : Reading A → Type 0) (b : Bool) (r : ℕ) (next : Reading A) → (b ≡ true → P next) → (b ≡ false → P (refused r)) → P (require b r next)
require_case P true r next f g = f refl
require_case P false r next f g = g refl

-- the length of the text, or of the buffer, is wrong
abbrev Unfit : ℕ → ℕ → Type 0
Unfit len size = (len < 1) ⊎ ((256 < len) ⊎ (size ≡ 64 → ⊥))

fit_tests : (n len size : ℕ) → job_size n ≡ true → (text_length len && eqb size 64) ≡ true → Asked n len size
fit_tests n len size a b =
    let k = job_true n a in
    let c = and_left (text_length len) (eqb size 64) b in
    record {
      some_names = k.0;
      few_names = k.1;
      some_characters = leb-true 1 len (and_left (leb 1 len) (leb len 256) c);
      few_characters = leb-true len 256 (and_right (leb 1 len) (leb len 256) c);
      buffer = eqb-true size 64 (and_right (text_length len) (eqb size 64) b);
    }

unfit_tests : (len size : ℕ) → (text_length len && eqb size 64) ≡ false → Unfit len size
unfit_tests len size = by (leb 1 len) (leb len 256) refl refl
  where
    by : (a b : Bool) → leb 1 len ≡ a → leb len 256 ≡ b → ((a && b) && eqb size 64) ≡ false → Unfit len size
    by false b p q e = inl (leb-false 1 len p)
    by true false p q e = inr (inl (leb-false len 256 q))
    by true true p q e = inr (inr (λ s. clash (eq-eqb size 64 s) e))

no_job : (n : ℕ) → NoJob n → 1 ≤ n → n ≤ 12 → ⊥
no_job n (inl h) a b = omega arith
no_job n (inr h) a b = omega arith

asked_fits : (n len size : ℕ) → Asked n len size → Unfit len size → ⊥
asked_fits n len size k (inl h) = omega (arith, k.some_characters)
asked_fits n len size k (inr (inl h)) = omega (arith, k.few_characters)
asked_fits n len size k (inr (inr h)) = h k.buffer

asked_job : (n len size : ℕ) → Asked n len size → NoJob n → ⊥
asked_job n len size k h = no_job n h k.some_names k.few_names

module _ (n : ℕ) (text : List ℕ) (size : ℕ) (P : Reading (List ℕ) → Type 0) where
  said_case : (b : Back) → read_back n 2 (reverse text) ≡ b → ((cs : List ℕ) → Says n text cs → P (require (leb (length cs) 64) 83 (accepted cs))) → (((cs : List ℕ) → Says n text cs → ⊥) → P (refused 82))
      → P (and_then (whole_text b) (λ cs. require (leb (length cs) 64) 83 (accepted cs)))
  said_case (ended w []) e f g = let t = text_whole n text w e in f (codes (term w)) (record { tree = w; of = t.1; written = t.0; codes_are = refl })
  said_case (ended w (c ∷ left)) e f g = g (λ cs h.
      let x : ended w (c ∷ left) ≡ ended h.tree [] = sym e ∙ ap (λ (u : List ℕ). read_back n 2 (reverse u)) (sym h.written) ∙ whole_text_lem n h.tree h.of in
      let y : c ∷ left ≡ [] = cc in
      let z : ◌≡◌ {A = ℕ} 0 1 = cc in omega arith)
  said_case no_text e f g = g (λ cs h.
      let x : no_text ≡ ended h.tree [] = sym e ∙ ap (λ (u : List ℕ). read_back n 2 (reverse u)) (sym h.written) ∙ whole_text_lem n h.tree h.of in
      let z : ◌≡◌ {A = ℕ} 0 1 = cc in omega arith)

  text_case : (NoJob n → P (refused 7)) → (1 ≤ n → n ≤ 12 → Unfit (length text) size → P (refused 81))
      → (Asked n (length text) size → ((cs : List ℕ) → Says n text cs → ⊥) → P (refused 82))
      → (Asked n (length text) size → (cs : List ℕ) → Says n text cs → 64 < length cs → P (refused 83))
      → (Asked n (length text) size → (cs : List ℕ) → Says n text cs → length cs ≤ 64 → P (accepted cs))
      → P (text_codes n text size)
  unfolding text_codes
  text_case f7 f81 f82 f83 ok =
      require_case P (job_size n) 7 _
      (λ a. require_case P (text_length (length text) && eqb size 64) 81 _
      (λ b.
      let k = fit_tests n (length text) size a b in
      said_case (read_back n 2 (reverse text)) refl
      (λ cs h. require_case P (leb (length cs) 64) 83 (accepted cs) (λ e. ok k cs h (leb-true _ _ e)) (λ e. f83 k cs h (leb-false _ _ e)))
      (f82 k))
      (λ b. let j = job_true n a in f81 j.0 j.1 (unfit_tests (length text) size b)))
      (λ a. f7 (job_false n a))

-- a refusal is no other one, and no result
differ : {A X : Type 0} (j k : ℕ) → eqb j k ≡ false → ◌≡◌ {A = Reading A} (refused j) (refused k) → X
differ j k h e = let x : j ≡ k = cc in absurd (clash (eq-eqb j k x) h)

not_accepted : {A X : Type 0} (a : A) (k : ℕ) → accepted a ≡ refused k → X
not_accepted a k e = absurd (let z : ◌≡◌ {A = ℕ} 0 1 = cc in omega arith)

not_refused : {A X : Type 0} (k : ℕ) (a : A) → refused k ≡ accepted a → X
not_refused k a e = absurd (let z : ◌≡◌ {A = ℕ} 0 1 = cc in omega arith)

pub accepts_the_language : AcceptsTheLanguage
accepts_the_language n text size cs = (
  text_case n text size (λ a. a ≡ accepted cs → Asked n (length text) size × Says n text cs × (length cs ≤ 64))
      (λ _. not_refused 7 cs) (λ _ _ _. not_refused 81 cs) (λ _ _. not_refused 82 cs) (λ _ _ _ _. not_refused 83 cs)
      (λ k ds h i e. let x : ds ≡ cs = cc in (k, rw x at h, rw x at i)),
  λ g.
      text_case n text size (λ a. a ≡ accepted cs)
      (λ h. absurd (asked_job n (length text) size g.0 h))
      (λ _ _ h. absurd (asked_fits n (length text) size g.0 h))
      (λ _ no. absurd (no cs g.1))
      (λ _ ds h i. absurd (omega (arith, ap length (says_once n text ds cs h g.1), g.2)))
      (λ _ ds h i. ap accepted (says_once n text ds cs h g.1)),
)

pub reader_refuses : ReaderRefuses
reader_refuses = record {
  seven = λ n text size. (
    text_case n text size (λ a. a ≡ refused 7 → NoJob n)
        (λ h _. h) (λ _ _ _. differ 81 7 refl) (λ _ _. differ 82 7 refl) (λ _ _ _ _. differ 83 7 refl) (λ _ cs _ _. not_accepted cs 7),
    λ h.
        text_case n text size (λ a. a ≡ refused 7)
        (λ _. refl) (λ a b _. absurd (no_job n h a b)) (λ k _. absurd (asked_job n (length text) size k h)) (λ k _ _ _. absurd (asked_job n (length text) size k h)) (λ k _ _ _. absurd (asked_job n (length text) size k h)),
  );
  eighty_one = λ n text size some few. (
    text_case n text size (λ a. a ≡ refused 81 → Unfit (length text) size)
        (λ _. differ 7 81 refl) (λ _ _ h _. h) (λ _ _. differ 82 81 refl) (λ _ _ _ _. differ 83 81 refl) (λ _ cs _ _. not_accepted cs 81),
    λ h.
        text_case n text size (λ a. a ≡ refused 81)
        (λ j. absurd (no_job n j some few)) (λ _ _ _. refl) (λ k _. absurd (asked_fits n (length text) size k h)) (λ k _ _ _. absurd (asked_fits n (length text) size k h)) (λ k _ _ _. absurd (asked_fits n (length text) size k h)),
  );
  eighty_two = λ n text size. (
    text_case n text size (λ a. a ≡ refused 82 → Asked n (length text) size × ((cs : List ℕ) → Says n text cs → ⊥))
        (λ _. differ 7 82 refl) (λ _ _ _. differ 81 82 refl) (λ k no _. (k, no)) (λ _ _ _ _. differ 83 82 refl) (λ _ cs _ _. not_accepted cs 82),
    λ g.
        text_case n text size (λ a. a ≡ refused 82)
        (λ h. absurd (asked_job n (length text) size g.0 h)) (λ _ _ h. absurd (asked_fits n (length text) size g.0 h)) (λ _ _. refl) (λ _ cs h _. absurd (g.1 cs h)) (λ _ cs h _. absurd (g.1 cs h)),
  );
  eighty_three = λ n text size. (
    text_case n text size (λ a. a ≡ refused 83 → Asked n (length text) size × SaysTooMuch n text)
        (λ _. differ 7 83 refl) (λ _ _ _. differ 81 83 refl) (λ _ _. differ 82 83 refl) (λ k cs h i _. (k, record { said = cs; says = h; many = i })) (λ _ cs _ _. not_accepted cs 83),
    λ g.
        text_case n text size (λ a. a ≡ refused 83)
        (λ h. absurd (asked_job n (length text) size g.0 h)) (λ _ _ h. absurd (asked_fits n (length text) size g.0 h))
        (λ _ no. absurd (no g.1.said g.1.says)) (λ _ _ _ _. refl)
        (λ _ cs h i. absurd (omega (arith, ap length (says_once n text cs g.1.said h g.1.says), g.1.many))),
  );
}

-- ---- the answer to a term

module _ (n : ℕ) (bytes : List ℕ) (size : ℕ) (P : Reading (List ℕ) → Type 0) where
  term_case : (NoJob n → P (refused 7)) → (1 ≤ n → n ≤ 12 → (size ≡ 256 → ⊥) → P (refused 81))
      → (1 ≤ n → n ≤ 12 → size ≡ 256 → (x : Reading Term) → read_term n bytes ≡ x → P (and_then x (λ t. accepted (flat (fewest t)))))
      → P (term_text n bytes size)
  unfolding term_text
  term_case f7 f81 ok =
      require_case P (job_size n) 7 _
      (λ a.
      let j = job_true n a in
      require_case P (eqb size 256) 81 _ (λ b. ok j.0 j.1 (eqb-true size 256 b) (read_term n bytes) refl) (λ b. f81 j.0 j.1 (λ e. clash (eq-eqb size 256 e) b)))
      (λ a. f7 (job_false n a))

-- a term's own refusals are at most 4
term_refuses : {X : Type 0} (n : ℕ) (bytes : List ℕ) (k : ℕ) → 4 < k → (x : Reading Term) → read_term n bytes ≡ x → and_then x (λ t. accepted (flat (fewest t))) ≡ refused k → X
term_refuses n bytes k h (accepted t) q e = not_accepted (flat (fewest t)) k e
term_refuses n bytes k h (refused r) q e = let same : r ≡ k = cc in absurd (omega (arith, (refused_number n bytes r q).1))

pub writer_refuses : WriterRefuses
writer_refuses = record {
  seven = λ n bytes size. (
    term_case n bytes size (λ a. a ≡ refused 7 → NoJob n) (λ h _. h) (λ _ _ _. differ 81 7 refl) (λ _ _ _. term_refuses n bytes 7 (omega arith)),
    λ h. term_case n bytes size (λ a. a ≡ refused 7) (λ _. refl) (λ a b _. absurd (no_job n h a b)) (λ a b _ _ _. absurd (no_job n h a b)),
  );
  eighty_one = λ n bytes size some few. (
    term_case n bytes size (λ a. a ≡ refused 81 → (size ≡ 256 → ⊥)) (λ _. differ 7 81 refl) (λ _ _ h _. h) (λ _ _ _. term_refuses n bytes 81 (omega arith)),
    λ h. term_case n bytes size (λ a. a ≡ refused 81) (λ j. absurd (no_job n j some few)) (λ _ _ _. refl) (λ _ _ e _ _. absurd (h e)),
  );
  one_to_four = λ n bytes r some few e.
      term_case n bytes 256 (λ a. a ≡ refused r) (λ j. absurd (no_job n j some few)) (λ _ _ h. absurd (h refl))
      (λ _ _ _ x q. ap (λ (y : Reading Term). and_then y (λ t. accepted (flat (fewest t)))) (sym q ∙ e));
}

pub every_term_is_written : EveryTermIsWritten
unfolding term_text
every_term_is_written n bytes t a b e = rw (job_size_lem n a b, e)

-- ---- there and back

written_is_read : (n : ℕ) (cs text : List ℕ) → term_text n cs 256 ≡ accepted text → text_codes n text 64 ≡ accepted cs
written_is_read n cs text e =
    let w = term_written n cs 256 text e in
    let j = job_true n w.names in
    let a = (accepted_codes n cs w.of).0 w.read in
    (accepts_the_language n text 64 cs).1 (
      record {
        some_names = j.0;
        few_names = j.1;
        some_characters = rw (← w.printed) (flat_some (fewest w.of));
        few_characters = rw (← w.printed) (omega (arith, accepted_long n cs w.of w.read));
        buffer = refl;
      },
      record { tree = fewest w.of; of = fewest_grammar n w.of a.1; written = w.printed; codes_are = ap codes (fewest_term w.of) ∙ sym a.0 },
      a.2,
    )

read_is_written : (n : ℕ) (text cs : List ℕ) → text_codes n text 64 ≡ accepted cs → WrittenFor n cs
read_is_written n text cs e =
    let g = (accepts_the_language n text 64 cs).0 e in
    let w = g.1.tree in
    let t = (accepted_codes n cs (term w)).1 (sym g.1.codes_are, tree_names n w g.1.of, g.2) in
    let x = every_term_is_written n cs (term w) g.0.some_names g.0.few_names t in
    record { text = flat (fewest (term w)); written = x; back = written_is_read n cs (flat (fewest (term w))) x }

pub reads_back : ReadsBack
reads_back = record { written_is_read = written_is_read; read_is_written = read_is_written }

pub fewest_brackets : FewestBrackets
fewest_brackets n cs text another e f =
    let w = term_written n cs 256 text e in
    let a = (accepted_codes n cs w.of).0 w.read in
    let g = (accepts_the_language n another 64 cs).0 f in
    let v = g.1.tree in
    let u = codes_unique n (term v) w.of [] [] (tree_names n v g.1.of) a.1 (ap (λ (l : List ℕ). l ++ []) (g.1.codes_are ∙ a.0)) in
    let x : brackets_in text ≡ brackets_in (flat (fewest (term v))) = ap brackets_in (sym w.printed ∙ ap (λ (t : Term). flat (fewest t)) (sym u.0)) in
    let y : brackets_in another ≡ brackets_in (flat v) = ap brackets_in (sym g.1.written) in
    omega (arith, fewest_least n v g.1.of)

pub at_most_192 : AtMost192
at_most_192 n bytes text size e =
    let w = term_written n bytes size text e in
    omega (arith, accepted_long n bytes w.of w.read, ap length w.printed)

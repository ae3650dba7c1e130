-- Rows in a list of words: one that is put, and those of a term put one after another. Assumes nothing.
use mathlib.Core.Path.{◌≡◌, refl, ◌∙◌}
use mathlib.Core.List.{List}
use Prim.Native.Nat.{ℕ, ◌+◌, ◌*◌, ◌≤◌, ◌<◌}
use native.Mathlib.Decide.{ℕ_discrete}
use native.Mathlib.Omega.{arith}
use lib.ListN.{length, get_or, set, length-set}
use lib.Seq.{get_or-set_same, get_or-set_other}
use Rattle.model.specs.Sides.{Side}
use Rattle.model.specs.Terms.{Term, held}
use Rattle.words.specs.declared.Row.{Row}
use Rattle.words.specs.FourWords.{RowAt, row_set, row_in}
use Rattle.words.specs.Evaluation.{held_word, Tabled, EvaluatedTo}

pub words_equal : (a b c d a' b' c' d' : ℕ) → a ≡ a' → b ≡ b' → c ≡ c' → d ≡ d' → ◌≡◌ {A = Row} (record { a = a; b = b; c = c; d = d }) (record { a = a'; b = b'; c = c'; d = d' })
words_equal a b c d a' b' c' d' p q r s = rw (p, q, r, s)

module _ (words : List ℕ) (g : ℕ) (row : Row) where
  abbrev first : List ℕ
  first = set words (4 * g) row.a

  abbrev second : List ℕ
  second = set first (4 * g + 1) row.b

  abbrev third : List ℕ
  third = set second (4 * g + 2) row.c

  -- a word of another row
  word_other : (h j : ℕ) → (h ≡ g → ⊥) → j < 4 → get_or (row_set words g row) (4 * h + j) 0 ≡ get_or words (4 * h + j) 0
  word_other h j n l =
      get_or-set_other third (4 * g + 3) (4 * h + j) row.d 0 (λ e. n (omega arith)) ∙ get_or-set_other second (4 * g + 2) (4 * h + j) row.c 0 (λ e. n (omega arith))
      ∙ get_or-set_other first (4 * g + 1) (4 * h + j) row.b 0 (λ e. n (omega arith)) ∙ get_or-set_other words (4 * g) (4 * h + j) row.a 0 (λ e. n (omega arith))

  pub row_other : (h : ℕ) → (h ≡ g → ⊥) → row_in (row_set words g row) h ≡ row_in words h
  row_other h n =
      let z : 4 * h + 0 ≡ 4 * h = omega arith in
      words_equal _ _ _ _ _ _ _ _
      (rw z at (word_other h 0 n (omega arith))) (word_other h 1 n (omega arith)) (word_other h 2 n (omega arith)) (word_other h 3 n (omega arith))

  pub row_set_lem : 4 * (g + 1) ≤ length words → row_in (row_set words g row) g ≡ row
  row_set_lem l =
      let a = length-set words (4 * g) row.a in
      let b = length-set first (4 * g + 1) row.b in
      let c = length-set second (4 * g + 2) row.c in
      words_equal _ _ _ _ _ _ _ _
      (get_or-set_other third (4 * g + 3) (4 * g) row.d 0 (omega arith) ∙ get_or-set_other second (4 * g + 2) (4 * g) row.c 0 (omega arith)
      ∙ get_or-set_other first (4 * g + 1) (4 * g) row.b 0 (omega arith) ∙ get_or-set_same words (4 * g) row.a 0 (omega arith))
      (get_or-set_other third (4 * g + 3) (4 * g + 1) row.d 0 (omega arith) ∙ get_or-set_other second (4 * g + 2) (4 * g + 1) row.c 0 (omega arith)
      ∙ get_or-set_same first (4 * g + 1) row.b 0 (omega (arith, a)))
      (get_or-set_other third (4 * g + 3) (4 * g + 2) row.d 0 (omega arith) ∙ get_or-set_same second (4 * g + 2) row.c 0 (omega (arith, a, b)))
      (get_or-set_same third (4 * g + 3) row.d 0 (omega (arith, a, b, c)))

-- ---- the rows of a term

module _ (t : Term) (s : Side) (before : List ℕ) where
  pub evaluated_none : EvaluatedTo t s 0 before before
  evaluated_none = record {
    table = λ h. record { word = λ w l. absurd (omega arith) };
    same = refl;
    kept = λ w l. refl;
  }

  -- one word more
  evaluated_more : (k x : ℕ) (now : List ℕ) → EvaluatedTo t s k before now → x ≡ held_word t s k → EvaluatedTo t s (k + 1) before (set now k x)
  evaluated_more k x now done new = record {
    table = λ h. record {
      word = λ w l. elim (ℕ_discrete w k) [
        | yes q ↦ rw q (get_or-set_same now k x 0 (omega (arith, done.same)) ∙ new)
        | no d ↦ get_or-set_other now k w x 0 d ∙ (done.table (omega arith)).word w (omega arith)
      ];
    };
    same = length-set now k x ∙ done.same;
    kept = λ w l. get_or-set_other now k w x 0 (omega arith) ∙ done.kept w (omega arith);
  }

  -- one row more
  pub evaluated_row : (g : ℕ) (x : Row) (now : List ℕ) → EvaluatedTo t s (4 * g) before now → RowAt (held t s) g x → EvaluatedTo t s (4 * (g + 1)) before (row_set now g x)
  evaluated_row g x now done r =
      let end : 4 * g + 3 + 1 ≡ 4 * (g + 1) = omega arith in
      let one : 4 * g + 0 ≡ 4 * g = omega arith in
      let two : 4 * g + 1 + 1 ≡ 4 * g + 2 = omega arith in
      let three : 4 * g + 2 + 1 ≡ 4 * g + 3 = omega arith in
      let a = evaluated_more (4 * g) x.a now done (rw one at (r.word 0 (omega arith))) in
      let b = evaluated_more (4 * g + 1) x.b _ a (r.word 1 (omega arith)) in
      let c = evaluated_more (4 * g + 2) x.c _ (rw two at b) (r.word 2 (omega arith)) in
      let d = evaluated_more (4 * g + 3) x.d _ (rw three at c) (r.word 3 (omega arith)) in
      rw end at d

-- of a table, its first words
pub tabled_few : {t : Term} {s : Side} {j k : ℕ} {words : List ℕ} → j ≤ k → Tabled t s k words → Tabled t s j words
tabled_few h table = record { word = λ w l. table.word w (omega arith) }

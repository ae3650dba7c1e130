-- Stored numbers while they are changed row by row: each law over the change. Assumes nothing.
use mathlib.Core.Path.{◌≡◌, refl, sym, ap, ◌∙◌}
use mathlib.Core.Bool.{Bool, true, false, cond, ◌&&◌, true≢false}
use mathlib.Core.List.{List}
use Prim.Native.Nat.{ℕ, ◌+◌, ◌*◌, ◌^◌, ◌≤◌, ◌<◌}
use native.Mathlib.Nat.{add-zero}
use native.Mathlib.Decide.{ℕ_discrete, dec_lt}
use native.Mathlib.Omega.{arith}
use lib.Dec.{ltb}
use borrow.Author.Tests.{lt-ltb, le-ltb}
use denote.Ref.{MutBor}
use Rattle.model.specs.Sides.{Side, confidentiality, integrity}
use Rattle.model.specs.Coalitions.{Marks, mark, bit}
use Rattle.model.specs.Grants.{Grant, Under, marks_of, breaks, counts_under}
use Rattle.model.specs.Terms.{Term}
use Rattle.model.specs.Live.{Numbers, breaks_counting, sound_by}
use Rattle.model.proofs.Judge.{judge_cong}
use Rattle.words.specs.declared.Row.{Row}
use Rattle.words.specs.declared.Rows.{Rows}
use Rattle.words.specs.FourWords.{RowAt, RowsAt, empty_rows}
use Rattle.words.specs.Evaluation.{job_of, row_count}
use Rattle.words.proofs.Names.{rows_enough, rows_most, rows_few, few_coalitions}
use Rattle.words.proofs.FourWords.{row_cong, rows_cong, rows_empty}
use Rattle.planes.specs.Digits.{Digits, Elsewhere, Raised, Lowered}
use Rattle.planes.proofs.Planes.{digits_else, digits_cong}
use Rattle.questions.specs.declared.Relation.{Relation}
use Rattle.questions.specs.declared.Relation.TheVariants.{ActsFor}
use Rattle.questions.specs.Searching.{from_of, to_of, judge_of, opposed_of}
use Rattle.stored.specs.Stored.{row_of, of_job, more, Stored, Small, Steps}

-- numbers that agree are stored alike
pub stored_cong : (n : ℕ) (planes : List ℕ) (f h : Numbers) → ((s : Side) (c : ℕ) → f s c ≡ h s c) → Stored n planes f → Stored n planes h
stored_cong n planes f h e k = record { row = λ s g l. digits_cong planes (row_of s g) g (of_job n f s) (of_job n h s) (λ c _ _. ap (λ (x : ℕ). cond (ltb c (2 ^ n)) x 0) (e s c)) (k.row s g l) }

-- ---- one row after another

-- the rows before row g have the new numbers, the others the old
pub record UpTo (planes : List ℕ) (old new : Numbers) (g : ℕ) : Type 0 where
  pub done : (s : Side) (h : ℕ) → h < g → h < 16 → Digits planes (row_of s h) h (new s)
  pub left : (s : Side) (h : ℕ) → g ≤ h → h < 16 → Digits planes (row_of s h) h (old s)

pub upto_none : (planes : List ℕ) (old new : Numbers) → ((s : Side) (h : ℕ) → h < 16 → Digits planes (row_of s h) h (old s)) → UpTo planes old new 0
upto_none planes old new e = record { done = λ s h l. absurd (omega arith); left = λ s h _ l. e s h l }

-- row g is changed on the see side, and then on the change side
module _ (old new : Numbers) (g : ℕ) (low : g < 16) (first second third : List ℕ)
    (h : UpTo first old new g)
    (else_see : Elsewhere first g second) (see : Digits first g g (old confidentiality) → Digits second g g (new confidentiality))
    (else_change : Elsewhere second (16 + g) third) (change : Digits second (16 + g) g (old integrity) → Digits third (16 + g) g (new integrity)) where
  -- a row that is not changed
  other_row : (s : Side) (k : ℕ) (f : ℕ → ℕ) → (k ≡ g → ⊥) → k < 16 → Digits first (row_of s k) k f → Digits third (row_of s k) k f
  other_row confidentiality k f n l d = digits_else second third (16 + g) k k f (omega arith) else_change (digits_else first second g k k f n else_see d)
  other_row integrity k f n l d = digits_else second third (16 + g) (16 + k) k f (λ e. n (omega arith)) else_change (digits_else first second g (16 + k) k f (omega arith) else_see d)

  this_row : (s : Side) → Digits third (row_of s g) g (new s)
  this_row confidentiality = digits_else second third (16 + g) g g (new confidentiality) (omega arith) else_change (see (h.left confidentiality g (omega arith) low))
  this_row integrity = change (digits_else first second g (16 + g) g (old integrity) (omega arith) else_see (h.left integrity g (omega arith) low))

  pub upto_more : UpTo third old new (g + 1)
  upto_more = record {
    done = λ s k l m. elim (ℕ_discrete k g) [
      | yes e ↦ rw e (this_row s)
      | no n ↦ other_row s k (new s) n m (h.done s k (omega arith) m)
    ];
    left = λ s k l m. other_row s k (old s) (omega arith) m (h.left s k (omega arith) m);
  }

-- the rows that n names don't take have no coalition of theirs
beyond : (n h c : ℕ) → row_count n ≤ h → h < 16 → 256 * h ≤ c → ltb c (2 ^ n) ≡ false
beyond n h c a b d = elim (dec_lt n 13) [
  | yes l ↦ le-ltb c (2 ^ n) (omega (arith, rows_enough n (omega arith)))
  | no l ↦ absurd (omega (arith, rows_most n (omega arith)))
]

-- all rows that n names take
pub upto_all : (n : ℕ) (planes : List ℕ) (f h : Numbers) (g : ℕ) → g ≡ row_count n → UpTo planes (of_job n f) (of_job n h) g → Stored n planes h
upto_all n planes f h g e u = record {
  row = λ s k l. elim (dec_lt k g) [
    | yes b ↦ u.done s k b l
    | no b ↦ digits_cong planes (row_of s k) k (of_job n f s) (of_job n h s) (λ c low _. (let out = beyond n k c (omega arith) l low in rw out)) (u.left s k (omega arith) l)
  ];
}

-- ---- 1 more, 1 less

marked-bit : (n : ℕ) (f : Numbers) (m : Marks) (s : Side) (c : ℕ) → of_job n f s c + bit (mark n (m s) c) ≡ of_job n (more f m) s c
unfolding mark
marked-bit n f m s c = by (ltb c (2 ^ n))
  where
    by : (b : Bool) → cond b (f s c) 0 + bit (b && m s c) ≡ cond b (f s c + bit (m s c)) 0
    by true = refl
    by false = refl

-- the numbers are raised where they are marked, or lowered
module _ (of : MutBor (List ℕ) → ℕ → Row → MutBor (List ℕ) → Type 0) (n : ℕ) (m : Marks) (f : Numbers) where
  same : (s : Side) (c : ℕ) → m s c ≡ false → f s c ≡ more f m s c
  same s c e = rw e (sym (add-zero (f s c)))

  pub raises : ((x : MutBor (List ℕ)) (row : ℕ) (marked : Row) (y : MutBor (List ℕ)) → of x row marked y → Raised x.now row marked y.now) → Steps of n m f (more f m)
  raises each = record {
    number = λ s row g marked x y p r d. digits_cong y.now row g _ (of_job n (more f m) s) (λ c _ _. marked-bit n f m s c) ((each x row marked y p).number g (of_job n f s) (mark n (m s)) d r);
    others = λ row marked x y p. (each x row marked y p).others;
    still = same;
  }

  pub lowers : ((x : MutBor (List ℕ)) (row : ℕ) (marked : Row) (y : MutBor (List ℕ)) → of x row marked y → Lowered x.now row marked y.now) → Steps of n m (more f m) f
  lowers each = record {
    number = λ s row g marked x y p r d. (each x row marked y p).number g (of_job n f s) (mark n (m s)) (digits_cong x.now row g (of_job n (more f m) s) _ (λ c _ _. sym (marked-bit n f m s c)) d) r;
    others = λ row marked x y p. (each x row marked y p).others;
    still = λ s c e. sym (same s c e);
  }

-- ---- a grant's part

-- those that refute, were they sound, that p acts for q break the grant
pub opposed_breaks : (g : Grant) (n k : ℕ) (s : Side) (x : Row) → RowAt (opposed_of ActsFor n g.p g.q s) k x → RowAt (mark n (breaks (marks_of g) s)) k x
unfolding mark
opposed_breaks g n k s x r = r

-- a grant that counts breaks what breaks it, and one that doesn't is broken by none
module _ (u : Under) (g : Grant) where
  counted : counts_under u g ≡ true → (s : Side) (c : ℕ) → breaks (marks_of g) s c ≡ breaks_counting u g s c
  unfolding breaks_counting
  counted e s c = rw e

  pub part : counts_under u g ≡ true → (n k : ℕ) (s : Side) (x : Row) → RowAt (mark n (breaks (marks_of g) s)) k x → RowAt (mark n (breaks_counting u g s)) k x
  unfolding mark
  part e n k s x r = row_cong k _ _ x (λ c _ _. ap (λ b. ltb c (2 ^ n) && b) (counted e s c)) r

  pub no_part : counts_under u g ≡ false → (s : Side) (c : ℕ) → breaks_counting u g s c ≡ false
  unfolding breaks_counting
  no_part e s c = rw e

-- ---- which coalitions are sound by the numbers

pub job_small : (n : ℕ) (f : Numbers) → Small f → (s : Side) (c : ℕ) → of_job n f s c < 128
job_small n f small s c = by (ltb c (2 ^ n))
  where
    by : (b : Bool) → cond b (f s c) 0 < 128
    by true = small s c
    by false = omega arith

pub sound_none : (g : ℕ) (m h : Marks) (x : Rows) → RowsAt m g x → empty_rows x ≡ true → RowsAt (λ s c. m s c && h s c) g x
sound_none g m h x r e = rows_cong g m _ x (λ s c low high. by (m s c) (h s c) (rows_empty g m x r e s c low high)) r
  where
    by : (a b : Bool) → a ≡ false → a ≡ (a && b)
    by false b e = refl
    by true b e = absurd (true≢false e)

-- the coalitions of the job are judged by their own numbers
pub judge_job : (relation : Relation) (n : ℕ) (f : Numbers) (p q : Term) → judge_of relation (job_of n) (sound_by (of_job n f)) p q ≡ judge_of relation (job_of n) (sound_by f) p q
judge_job relation n f p q = judge_cong (job_of n) (sound_by (of_job n f)) (sound_by f) (from_of relation p q) (to_of relation p q)
    (λ s c l.
    let few : c < 4096 = omega (arith, rows_enough (job_of n) (omega arith), rows_few (job_of n)) in
    let inside : ltb c (2 ^ n) ≡ true = few_coalitions n c few ∙ lt-ltb c (2 ^ job_of n) l in
    rw inside)

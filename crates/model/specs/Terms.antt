-- Document 01, "Terms": what a term is, its codes, how bytes are read as a term, and where a term is held.
-- Assumes nothing: these are definitions.
use Rattle.std.specs.Prelude.{ℕ, zero, suc, ◌<◌, ◌≡◌, Bool, true, false, cond, ◌&&◌, ◌||◌, List, [], ◌∷◌, ◌++◌, eqb, ltb, leb, length}
use Rattle.model.specs.Sides.{Side, confidentiality, integrity}
use Rattle.model.specs.Readings.{Reading, accepted, refused, require}
use Rattle.model.specs.Coalitions.{member}

-- A name; the strongest party; the weakest; both of two terms; either of them; one side of a term; at least k of some terms.
mutual
  pub data Term : Type 0 where
    name : ℕ → Term
    top : Term
    bottom : Term
    conj : Term → Term → Term
    disj : Term → Term → Term
    project : Side → Term → Term
    quorum : ℕ → Terms → Term

  -- the parts of a quorum, by place
  pub data Terms : Type 0 where
    nil : Terms
    cons : Term → Terms → Terms

unfoldable pub count : Terms → ℕ
count nil = 0
count (cons t ts) = suc (count ts)

-- A quorum of k of m parts: 1 ≤ k ≤ m ≤ 12.
abbrev pub quorate : ℕ → ℕ → Bool
quorate k m = leb 1 k && (leb k m && leb m 12)

-- 40 is the see side of the next term, 41 its change side.
abbrev pub project_code : Side → ℕ
project_code confidentiality = 0x40
project_code integrity = 0x41

-- a job has 1 to 12 names
abbrev pub job_size : ℕ → Bool
job_size n = leb 1 n && leb n 12

-- A term's codes, operator first; after a quorum's code its k and m.
unfoldable mutual
  pub codes : Term → List ℕ
  codes (name i) = i ∷ []
  codes top = 0x20 ∷ []
  codes bottom = 0x21 ∷ []
  codes (conj p q) = 0x30 ∷ codes p ++ codes q
  codes (disj p q) = 0x31 ∷ codes p ++ codes q
  codes (project s p) = project_code s ∷ codes p
  codes (quorum k ts) = 0x32 ∷ k ∷ count ts ∷ codes_all ts

  pub codes_all : Terms → List ℕ
  codes_all nil = []
  codes_all (cons t ts) = codes t ++ codes_all ts

-- Every name of the term has a code, 00 to 0B, and is below n; and every quorum is in range.
unfoldable mutual
  pub NamesBelow : ℕ → Term → Type 0
  NamesBelow n (name i) = (i < 12) × (i < n)
  NamesBelow n top = Unit {0}
  NamesBelow n bottom = Unit {0}
  NamesBelow n (conj p q) = NamesBelow n p × NamesBelow n q
  NamesBelow n (disj p q) = NamesBelow n p × NamesBelow n q
  NamesBelow n (project s p) = NamesBelow n p
  NamesBelow n (quorum k ts) = (quorate k (count ts) ≡ true) × PartsBelow n ts

  pub PartsBelow : ℕ → Terms → Type 0
  PartsBelow n nil = Unit {0}
  PartsBelow n (cons t ts) = NamesBelow n t × PartsBelow n ts

-- What a byte is in a job of n names: a whole term, an operator before one term or before two, or before k, m and m terms, or no code.
pub data Code : Type 0 where
  whole : Term → Code
  one : (Term → Term) → Code
  two : (Term → Term → Term) → Code
  many : Code
  none : Code

unfoldable pub code_of : ℕ → ℕ → Code
code_of n c =
    cond (ltb c 12) (cond (ltb c n) (whole (name c)) none)
    (cond (eqb c 0x20) (whole top)
    (cond (eqb c 0x21) (whole bottom)
    (cond (eqb c 0x30) (two conj)
    (cond (eqb c 0x31) (two disj)
    (cond (eqb c 0x32) many
    (cond (eqb c 0x40) (one (project confidentiality))
    (cond (eqb c 0x41) (one (project integrity)) none)))))))

-- What is read off the front of a list, one term or several, and the bytes after it; or the refusal, 2 or 3.
pub data Front (A : Type 0) : Type 0 where
  found : A → List ℕ → Front A
  stopped : ℕ → Front A

abbrev pub onward : {A B : Type 0} → Front A → (A → List ℕ → Front B) → Front B
onward (found t rest) next = next t rest
onward (stopped r) next = stopped r

-- m terms one after another, each read by `part`.
unfoldable pub read_all : (List ℕ → Front Term) → ℕ → List ℕ → Front Terms
read_all part zero cs = found nil cs
read_all part (suc m) cs = onward (part cs) (λ p rest. onward (read_all part m rest) (λ ps last. found (cons p ps) last))

-- A quorum after its code: k, m, then m parts. 3 where k or m is missing; 2 at m where they are out of range.
abbrev pub read_quorum : (List ℕ → Front Term) → List ℕ → Front Term
read_quorum part [] = stopped 3
read_quorum part (k ∷ []) = stopped 3
read_quorum part (k ∷ m ∷ cs) = cond (quorate k m) (onward (read_all part m cs) (λ ps rest. found (quorum k ps) rest)) (stopped 2)

-- Read the parts that a code asks for, each by `part`.
abbrev pub read_parts : (List ℕ → Front Term) → Code → List ℕ → Front Term
read_parts part (whole t) cs = found t cs
read_parts part (one f) cs = onward (part cs) (λ p rest. found (f p) rest)
read_parts part (two f) cs = onward (part cs) (λ p rest. onward (part rest) (λ q last. found (f p q) last))
read_parts part many cs = read_quorum part cs
read_parts part none cs = stopped 2

-- 3 where the codes end too early. The first number bounds how deep parts have parts; the number of codes is enough.
unfoldable pub read_within : ℕ → ℕ → List ℕ → Front Term
read_within zero n cs = stopped 3
read_within (suc deep) n [] = stopped 3
read_within (suc deep) n (c ∷ cs) = read_parts (read_within deep n) (code_of n c) cs

abbrev pub read_front : ℕ → List ℕ → Front Term
read_front n cs = read_within (length cs) n cs

-- 4 where codes are left after the term.
abbrev pub all_read : Front Term → Reading Term
all_read (found t []) = accepted t
all_read (found t (c ∷ rest)) = refused 4
all_read (stopped r) = refused r

-- a term is 1 to 64 codes
abbrev pub term_length : ℕ → Bool
term_length k = leb 1 k && leb k 64

-- The term that a list of bytes is in a job of n names, or the refusal, 1 to 4.
unfoldable pub read_term : ℕ → List ℕ → Reading Term
read_term n cs = require (term_length (length cs)) 1 (all_read (read_front n cs))

-- At coalition c the term is held on the side; how many of the parts of a quorum are.
unfoldable mutual
  pub held : Term → Side → ℕ → Bool
  held (name i) s c = member i c
  held top s c = false
  held bottom s c = true
  held (conj p q) s c = held p s c && held q s c
  held (disj p q) s c = held p s c || held q s c
  held (project confidentiality p) confidentiality c = held p confidentiality c
  held (project confidentiality p) integrity c = true
  held (project integrity p) confidentiality c = true
  held (project integrity p) integrity c = held p integrity c
  held (quorum k ts) s c = leb k (held_count ts s c)

  pub held_count : Terms → Side → ℕ → ℕ
  held_count nil s c = 0
  held_count (cons t ts) s c = cond (held t s c) (suc (held_count ts s c)) (held_count ts s c)

-- Document 02, K1: what is claimed of the written notation. Assumes nothing: these are the statements.
use Rattle.std.specs.Prelude.{ℕ, ◌+◌, ◌≤◌, ◌<◌, ◌↔◌, ◌⊎◌, ◌≡◌, cond, List, [], ◌∷◌, eqb, length}
use Rattle.model.specs.Readings.{accepted, refused}
use Rattle.model.specs.Terms.{Term, codes, read_term}
use Rattle.model.specs.Texts.{Tree, flat, term, Grammar, fewest}
use Rattle.model.specs.Notation.{text_codes, term_text}

-- The text is of the language, for n names: it is that of a tree of the grammar, whose term has these codes.
pub record Says (n : ℕ) (text cs : List ℕ) : Type 0 where
  pub tree : Tree
  pub of : Grammar n tree
  pub written : flat tree ≡ text
  pub codes_are : codes (term tree) ≡ cs

-- Nothing that comes before the language refuses: neither 7 nor 81.
pub record Asked (n length_of_text size : ℕ) : Type 0 where
  pub some_names : 1 ≤ n
  pub few_names : n ≤ 12
  pub some_characters : 1 ≤ length_of_text
  pub few_characters : length_of_text ≤ 256
  pub buffer : size ≡ 64

-- A text is read to these codes exactly if it is of the language, says them, and they are at most 64.
abbrev pub AcceptsTheLanguage : Type 0
AcceptsTheLanguage = (n : ℕ) (text : List ℕ) (size : ℕ) (cs : List ℕ) → text_codes n text size ≡ accepted cs ↔ (Asked n (length text) size × Says n text cs × (length cs ≤ 64))

-- Each text has one reading: two trees of the grammar with the same text are the same.
abbrev pub OneTree : Type 0
OneTree = (n : ℕ) (w v : Tree) → Grammar n w → Grammar n v → flat w ≡ flat v → w ≡ v

-- not 1 to 12
abbrev pub NoJob : ℕ → Type 0
NoJob n = (n < 1) ⊎ (12 < n)

-- a text of the language with over 64 codes
pub record SaysTooMuch (n : ℕ) (text : List ℕ) : Type 0 where
  pub said : List ℕ
  pub says : Says n text said
  pub many : 64 < length said

-- The reader's refusals, each exactly under its condition: 7, then 81, then 82, then 83.
pub record ReaderRefuses : Type 0 where
  pub seven : (n : ℕ) (text : List ℕ) (size : ℕ) → text_codes n text size ≡ refused 7 ↔ NoJob n
  pub eighty_one : (n : ℕ) (text : List ℕ) (size : ℕ) → 1 ≤ n → n ≤ 12
      → text_codes n text size ≡ refused 81 ↔ ((length text < 1) ⊎ ((256 < length text) ⊎ (size ≡ 64 → ⊥)))
  pub eighty_two : (n : ℕ) (text : List ℕ) (size : ℕ) → text_codes n text size ≡ refused 82 ↔ (Asked n (length text) size × ((cs : List ℕ) → Says n text cs → ⊥))
  pub eighty_three : (n : ℕ) (text : List ℕ) (size : ℕ) → text_codes n text size ≡ refused 83 ↔ (Asked n (length text) size × SaysTooMuch n text)

-- The writer's: 7, then 81, then those of the term.
pub record WriterRefuses : Type 0 where
  pub seven : (n : ℕ) (bytes : List ℕ) (size : ℕ) → term_text n bytes size ≡ refused 7 ↔ NoJob n
  pub eighty_one : (n : ℕ) (bytes : List ℕ) (size : ℕ) → 1 ≤ n → n ≤ 12 → term_text n bytes size ≡ refused 81 ↔ (size ≡ 256 → ⊥)
  pub one_to_four : (n : ℕ) (bytes : List ℕ) (r : ℕ) → 1 ≤ n → n ≤ 12 → read_term n bytes ≡ refused r → term_text n bytes 256 ≡ refused r

-- Every accepted term is written as the text that says it with the fewest brackets.
abbrev pub EveryTermIsWritten : Type 0
EveryTermIsWritten = (n : ℕ) (bytes : List ℕ) (t : Term) → 1 ≤ n → n ≤ 12 → read_term n bytes ≡ accepted t → term_text n bytes 256 ≡ accepted (flat (fewest t))

-- What is written reads back to the same codes; and what is read can be written, as a text that reads to the same codes.
pub record WrittenFor (n : ℕ) (cs : List ℕ) : Type 0 where
  pub text : List ℕ
  pub written : term_text n cs 256 ≡ accepted text
  pub back : text_codes n text 64 ≡ accepted cs

pub record ReadsBack : Type 0 where
  pub written_is_read : (n : ℕ) (cs text : List ℕ) → term_text n cs 256 ≡ accepted text → text_codes n text 64 ≡ accepted cs
  pub read_is_written : (n : ℕ) (text cs : List ℕ) → text_codes n text 64 ≡ accepted cs → WrittenFor n cs

-- how many characters of a text are brackets
unfoldable pub brackets_in : List ℕ → ℕ
brackets_in [] = 0
brackets_in (c ∷ text) = cond (eqb c 0x28) 1 (cond (eqb c 0x29) 1 0) + brackets_in text

-- Every text that reads to these codes has at least as many brackets as the one that is written.
abbrev pub FewestBrackets : Type 0
FewestBrackets = (n : ℕ) (cs text another : List ℕ) → term_text n cs 256 ≡ accepted text → text_codes n another 64 ≡ accepted cs → brackets_in text ≤ brackets_in another

-- No term is written in more than 192 characters.
abbrev pub AtMost192 : Type 0
AtMost192 = (n : ℕ) (bytes text : List ℕ) (size : ℕ) → term_text n bytes size ≡ accepted text → length text ≤ 192

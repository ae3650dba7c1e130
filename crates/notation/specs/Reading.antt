-- What each case of the reader's answers stands for, and what reading off the end of a text leaves. Assumes nothing: these are definitions.
use Rattle.std.specs.Prelude.{ℕ, ◌+◌, ◌<◌, ◌≤◌, ◌≡◌, List, ◌++◌, length, drop, get_or, Option, MatchOption}
use Rattle.model.specs.Terms.{project_code, codes, codes_all}
use Rattle.model.specs.Texts.{Tree, Trees, places, term, terms}
use Rattle.model.specs.Notation.{Back, ended, no_text, Last, sole, side, closing, other, number, read_number}
use Rattle.notation.specs.declared.Ending.{Ending}
use Rattle.notation.specs.declared.Ending.TheVariants.{Sole, Sign, Closing, Other}

-- an atom of one character has one code
abbrev pub ending_of : Last → Ending
ending_of (sole w) = Sole (get_or (codes (term w)) 0 0)
ending_of (side s) = Sign (project_code s)
ending_of closing = Closing
ending_of other = Other

-- A text that is being read in a job of n names: what is left of it, the last character first, and the codes read so far.
pub record State : Type 0 where
  pub n : ℕ
  pub left : List ℕ
  pub codes : List ℕ

abbrev pub state : ℕ → List ℕ → List ℕ → State
state n left codes = record { n = n; left = left; codes = codes }

-- past the last character
abbrev pub past : State → State
past s = state s.n (drop 1 s.left) s.codes

-- the number k was read
pub record NumberRead (k : ℕ) (before after : State) : Type 0 where
  pub is : read_number before.left ≡ number k after.left
  pub less : length after.left < length before.left
  pub same : after ≡ state before.n after.left before.codes

-- What reading leaves where the text is read as b: what is left before the tree that was read, whose codes stand before the rest.
pub record ReadOff (b : Back) (n : ℕ) (rest : List ℕ) (after : State) : Type 0 where
  pub tree : Tree
  pub is : b ≡ ended tree after.left
  pub stored : after.codes ≡ codes (term tree) ++ rest
  pub same : after.n ≡ n
  pub room : length after.left + length after.codes ≤ 256

-- and what it answers, or that the text is none of the language
abbrev pub Read : Back → State → State → Option (Unit {0}) → Type 0
Read b before after r = MatchOption r (b ≡ no_text) (λ u. ReadOff b before.n before.codes after)

-- The same of reading before the last places of a bracket or quorum: whatever these places are, if there are as many, and their codes come first.
abbrev pub ReadBefore : (Trees → Back) → ℕ → State → State → Option (Unit {0}) → Type 0
ReadBefore b many before after r = MatchOption r ((ws : Trees) → places ws ≡ many → b ws ≡ no_text)
    (λ u. (ws : Trees) (rest : List ℕ) → places ws ≡ many → before.codes ≡ codes_all (terms ws) ++ rest → ReadOff (b ws) before.n rest after)

-- What each code is on paper, and what writing leaves. Assumes nothing: these are definitions.
use Rattle.std.specs.Prelude.{ℕ, ◌+◌, cond, List, [], ◌∷◌, ◌++◌, eqb, ltb, leb, drop}
use Rattle.model.specs.Terms.{Term}
use Rattle.model.specs.Texts.{Tree, Trees, at_most, fewest, fewest_all}
use Rattle.words.specs.AnyBytes.{taken_all, taken}
use Rattle.terms.specs.declared.Joiner.TheVariants.{Both, Either}
use Rattle.writing.specs.declared.Mark.{Mark}
use Rattle.writing.specs.declared.Mark.TheVariants.{Whole, Sign, Between, Quorum}

-- what a code is on paper, by the order of the codes in document 01; what is no code stands for the strongest party
unfoldable pub mark_of : ℕ → Mark
mark_of c =
    cond (ltb c 12) (Whole (0x61 + c))
    (cond (eqb c 0x20) (Whole 0x2A)
    (cond (eqb c 0x21) (Whole 0x5F)
    (cond (eqb c 0x30) (Between Both)
    (cond (eqb c 0x31) (Between Either)
    (cond (eqb c 0x32) Quorum
    (cond (eqb c 0x40) (Sign 0x3E)
    (cond (eqb c 0x41) (Sign 0x3C) (Whole 0x2A))))))))

-- the bracket c, where rank `own` is over l
abbrev pub bracketed : ℕ → ℕ → ℕ → List ℕ
bracketed c own l = cond (leb own l) [] (c ∷ [])

-- the tree of a part that stands where ranks up to l need no brackets
abbrev pub within : ℕ → Term → Tree
within l t = at_most l (fewest t)

-- the places of a quorum of m parts, which these bytes stand for
abbrev pub places_in : ℕ → List ℕ → Trees
places_in m bytes = fewest_all (taken_all taken m bytes).terms

-- A text that is being written: what is left of the codes, and the characters that are written.
pub record State : Type 0 where
  pub codes : List ℕ
  pub written : List ℕ

abbrev pub state : List ℕ → List ℕ → State
state codes written = record { codes = codes; written = written }

-- f was written, and these codes are left
abbrev pub wrote : State → List ℕ → List ℕ → State
wrote s codes f = state codes (s.written ++ f)

-- what is left of the codes after a term, and after m of them
abbrev pub after_term : List ℕ → List ℕ
after_term codes = drop (taken codes).size codes

abbrev pub after_terms : ℕ → List ℕ → List ℕ
after_terms m codes = drop (taken_all taken m codes).size codes

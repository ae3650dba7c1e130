-- The term that any bytes stand for, so that a promise holds of all bytes: they are read as document 01 reads a term, but that a byte which is no
-- code, a quorum's code without a k and an m in range, and a part that is missing at the end, stand for the strongest party, which no coalition holds.
-- Assumes nothing: these are definitions.
use Rattle.std.specs.Prelude.{ℕ, zero, suc, ◌+◌, cond, List, [], ◌∷◌, length, drop}
use Rattle.model.specs.Terms.{Term, top, quorum, Terms, nil, cons, quorate, Code, whole, one, two, many, none, code_of}

-- a term, and how many bytes it takes
pub record Taken : Type 0 where
  pub term : Term
  pub size : ℕ

-- terms, and how many bytes they take
pub record TakenAll : Type 0 where
  pub terms : Terms
  pub size : ℕ

-- m terms one after another, each taken by `part`
unfoldable pub taken_all : (List ℕ → Taken) → ℕ → List ℕ → TakenAll
taken_all part zero cs = record { terms = nil; size = 0 }
taken_all part (suc m) cs =
    let rest = taken_all part m (drop (part cs).size cs) in
    record { terms = cons (part cs).term rest.terms; size = (part cs).size + rest.size }

-- a byte that is no code
abbrev pub no_code : Taken
no_code = record { term = top; size = 1 }

-- a quorum after its code: k, m and m parts
abbrev pub take_quorum : (List ℕ → Taken) → List ℕ → Taken
take_quorum part [] = no_code
take_quorum part (k ∷ []) = no_code
take_quorum part (k ∷ m ∷ cs) = cond (quorate k m) (record { term = quorum k (taken_all part m cs).terms; size = 3 + (taken_all part m cs).size }) no_code

-- the parts that a code asks for, each taken by `part` off the bytes that the last one leaves
abbrev pub take_parts : (List ℕ → Taken) → Code → List ℕ → Taken
take_parts part (whole t) cs = record { term = t; size = 1 }
take_parts part (one f) cs = record { term = f (part cs).term; size = suc (part cs).size }
take_parts part (two f) cs = record {
  term = f (part cs).term (part (drop (part cs).size cs)).term;
  size = suc ((part cs).size + (part (drop (part cs).size cs)).size);
}
take_parts part many cs = take_quorum part cs
take_parts part none cs = no_code

-- The first number bounds how deep parts have parts; the number of bytes is enough. A name is below 12, whatever n is.
unfoldable pub take_within : ℕ → List ℕ → Taken
take_within zero cs = record { term = top; size = 0 }
take_within (suc deep) [] = record { term = top; size = 0 }
take_within (suc deep) (c ∷ cs) = take_parts (take_within deep) (code_of 12 c) cs

abbrev pub taken : List ℕ → Taken
taken cs = take_within (length cs) cs

-- the term that the bytes stand for
abbrev pub term_in : List ℕ → Term
term_in bytes = (taken bytes).term

-- Document 02, K1, "A written notation", with the quorums of K4: how a text is read to codes, how a term is written as a text, and the two calls.
-- Assumes nothing: these are definitions.
use Rattle.std.specs.Prelude.{ℕ, zero, suc, ◌+◌, ◌-◌, Bool, false, cond, ◌&&◌, List, [], ◌∷◌, reverse, eqb, ltb, leb, length, drop}
use Rattle.model.specs.Sides.{Side, confidentiality, integrity}
use Rattle.model.specs.Readings.{Reading, accepted, refused, require, and_then}
use Rattle.model.specs.Terms.{quorate, codes, job_size, read_term}
use Rattle.model.specs.Answers.{Outcome, written_front}
use Rattle.model.specs.Texts.{Joiner, both, either, Tree, letter, star, low, bracket, signed, join, at_least, Trees, no_place, place, places, joiner, flat, term, fewest}

-- A text is read from its end: both joiners group to the left, so that a list's last part comes first, and before its joiner stands a list again.
-- Characters are therefore listed the last one first.

-- A tree that was read off the end of a text, and the characters left before it; or no text of the language.
pub data Back : Type 0 where
  ended : Tree → List ℕ → Back
  no_text : Back

abbrev pub leftward : Back → (Tree → List ℕ → Back) → Back
leftward (ended w left) next = next w left
leftward no_text next = no_text

-- What a character is as the last of an atom, in a job of n names: the whole atom, > or <, a closing bracket, or none of these.
pub data Last : Type 0 where
  sole : Tree → Last
  side : Side → Last
  closing : Last
  other : Last

unfoldable pub last_of : ℕ → ℕ → Last
last_of n c =
    cond (eqb c 0x2A) (sole star)
    (cond (eqb c 0x5F) (sole low)
    (cond (eqb c 0x3E) (side confidentiality)
    (cond (eqb c 0x3C) (side integrity)
    (cond (eqb c 0x29) closing
    (cond (leb 0x61 c && (ltb (c - 0x61) 12 && ltb (c - 0x61) n)) (sole (letter (c - 0x61))) other)))))

-- the characters left end in c
abbrev pub ends_in : ℕ → List ℕ → Bool
ends_in c [] = false
ends_in c (x ∷ left) = eqb x c

-- or in a digit
abbrev pub digit : ℕ → Bool
digit c = leb 0x30 c && leb c 0x39

abbrev pub ends_in_digit : List ℕ → Bool
ends_in_digit [] = false
ends_in_digit (x ∷ left) = digit x

-- A number that was read off the end, and the characters left before it; or no number.
pub data Number : Type 0 where
  number : ℕ → List ℕ → Number
  no_number : Number

-- Its last digit, and ten more where a 1 stands before that: no k and no m is over 12.
abbrev pub read_number : List ℕ → Number
read_number [] = no_number
read_number (c ∷ left) = cond (digit c) (cond (ends_in 0x31 left) (number (10 + (c - 0x30)) (drop 1 left)) (number (c - 0x30) left)) no_number

abbrev pub on_number : Number → (ℕ → List ℕ → Back) → Back
on_number (number k left) next = next k left
on_number no_number next = no_text

-- before the places of a quorum, and their opening bracket, stand k, a colon, and m, the number of places
abbrev pub numbered : Trees → List ℕ → Back
numbered ws left = on_number (read_number left) (λ m before. cond (eqb m (places ws) && ends_in 0x3A before)
    (on_number (read_number (drop 1 before)) (λ k rest. cond (quorate k m) (ended (at_least k ws) rest) no_text)) no_text)

-- one place alone is a text in brackets
abbrev pub bracketed : Trees → List ℕ → Back
bracketed no_place left = no_text
bracketed (place w no_place) left = ended (bracket w) left
bracketed (place w (place v ws)) left = no_text

-- all places are read, and their opening bracket: it is a quorum's where a digit stands before it
abbrev pub opened : Trees → List ℕ → Back
opened ws left = cond (ends_in_digit left) (numbered ws left) (bracketed ws left)

-- before w, which is one place more, stands a comma, and then what `around` reads, or the opening bracket
abbrev pub placed : (Trees → List ℕ → Back) → Trees → Tree → List ℕ → Back
placed around ws w left = cond (ends_in 0x2C left) (around (place w ws) (drop 1 left)) (cond (ends_in 0x28 left) (opened (place w ws) (drop 1 left)) no_text)

-- where the joiner stands before q, what `part` reads before it is the left part
abbrev pub joined_to : Joiner → (List ℕ → Back) → Tree → List ℕ → Back
joined_to j part q left = cond (ends_in (joiner j) left) (leftward (part (drop 1 left)) (λ p rest. ended (join j p q) rest)) (ended q left)

abbrev pub read_last : (ℕ → List ℕ → Back) → (Trees → List ℕ → Back) → Last → List ℕ → Back
read_last part around (sole w) left = ended w left
read_last part around (side s) left = leftward (part 0 left) (λ w rest. ended (signed s w) rest)
read_last part around closing left = around no_place left
read_last part around other left = no_text

-- An atom, a both-list, an either-list: `part` reads them, by their ranks 0, 1 and 2, off what stands before the last character or the joiner. `around` reads
-- the rest of a text in brackets, or of a quorum, before those of its places that are read already.
abbrev pub read_atom : ℕ → (ℕ → List ℕ → Back) → (Trees → List ℕ → Back) → List ℕ → Back
read_atom n part around [] = no_text
read_atom n part around (c ∷ left) = read_last part around (last_of n c) left

abbrev pub read_both : ℕ → (ℕ → List ℕ → Back) → (Trees → List ℕ → Back) → List ℕ → Back
read_both n part around s = leftward (read_atom n part around s) (joined_to both (part 1))

abbrev pub read_either : ℕ → (ℕ → List ℕ → Back) → (Trees → List ℕ → Back) → List ℕ → Back
read_either n part around s = leftward (read_both n part around s) (joined_to either (part 2))

abbrev pub read_rank : ℕ → (ℕ → List ℕ → Back) → (Trees → List ℕ → Back) → ℕ → List ℕ → Back
read_rank n part around zero s = read_atom n part around s
read_rank n part around (suc zero) s = read_both n part around s
read_rank n part around (suc (suc l)) s = read_either n part around s

-- one place more, and what stands before it
abbrev pub read_place : ℕ → (ℕ → List ℕ → Back) → (Trees → List ℕ → Back) → Trees → List ℕ → Back
read_place n part around ws s = leftward (read_either n part around s) (placed around ws)

-- The first number bounds how deep parts have parts; the number of characters is enough.
unfoldable mutual
  pub read_deep : ℕ → ℕ → ℕ → List ℕ → Back
  read_deep zero n l s = no_text
  read_deep (suc deep) n l s = read_rank n (λ m t. read_deep deep n m t) (λ ws t. around_deep deep n ws t) l s

  pub around_deep : ℕ → ℕ → Trees → List ℕ → Back
  around_deep zero n ws s = no_text
  around_deep (suc deep) n ws s = read_place n (λ m t. read_deep deep n m t) (λ vs t. around_deep deep n vs t) ws s

abbrev pub read_back : ℕ → ℕ → List ℕ → Back
read_back n l s = read_deep (length s) n l s

abbrev pub around_back : ℕ → Trees → List ℕ → Back
around_back n ws s = around_deep (length s) n ws s

-- The codes of a whole text; 82 where it is not of the language, or characters are left.
abbrev pub whole_text : Back → Reading (List ℕ)
whole_text (ended w []) = accepted (codes (term w))
whole_text (ended w (c ∷ left)) = refused 82
whole_text no_text = refused 82

-- a text is 1 to 256 characters
abbrev pub text_length : ℕ → Bool
text_length k = leb 1 k && leb k 256

-- The codes that a text says in a job of n names, for a buffer of this size; or the refusal: 7, 81, 82, 83.
unfoldable pub text_codes : ℕ → List ℕ → ℕ → Reading (List ℕ)
text_codes n text size =
    require (job_size n) 7
    (require (text_length (length text) && eqb size 64) 81
    (and_then (whole_text (read_back n 2 (reverse text)))
    (λ cs. require (leb (length cs) 64) 83 (accepted cs))))

-- The text of a term in a job of n names, for a buffer of this size; or the refusal: 7, 81, 1 to 4.
unfoldable pub term_text : ℕ → List ℕ → ℕ → Reading (List ℕ)
term_text n bytes size =
    require (job_size n) 7
    (require (eqb size 256) 81
    (and_then (read_term n bytes) (λ t. accepted (flat (fewest t)))))

-- n, text, buffer
unfoldable pub read_text : ℕ → List ℕ → List ℕ → Outcome
read_text n text buffer = written_front (text_codes n text (length buffer)) buffer

-- n, term, buffer
unfoldable pub write_term : ℕ → List ℕ → List ℕ → Outcome
write_term n term buffer = written_front (term_text n term (length buffer)) buffer

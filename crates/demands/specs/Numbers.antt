-- Which answers each call can give, and that the one number that an answer is to C gives it back (document 01, "Derivations", last paragraph, and
-- "Refusals by operation"). Assumes nothing: these are the statements.
use Rattle.std.specs.Prelude.{◌≡◌, ◌⊎◌, ℕ, ◌/◌, ◌%◌, ◌^◌, ◌≤◌, ◌<◌, List, [], ◌∷◌, true, false}
use Rattle.model.specs.Readings.{accepted}
use Rattle.model.specs.Dates.{real_date}
use Rattle.model.specs.Ledgers.{Ledger, read_ledger}
use Rattle.model.specs.Answers.{Answer, Yes, No, Written, Refused, RefusedAt, side_number, number}
use Rattle.model.specs.Questions.{acts_for, flows_to}
use Rattle.model.specs.Extracts.{extract}
use Rattle.model.specs.ShortForms.{shorten}
use Rattle.model.specs.Notation.{read_text, write_term}
use Rattle.model.specs.Derivations.{step_count, check_derivation}

-- What a C program takes out of a number: the arithmetic of include/rights.h.
abbrev pub kind_in : ℕ → ℕ
kind_in x = x / 65536

abbrev pub side_in : ℕ → ℕ
side_in x = x / 4096 % 2

abbrev pub coalition_in : ℕ → ℕ
coalition_in x = x % 4096

abbrev pub refusal_in : ℕ → ℕ
refusal_in x = x % 256

abbrev pub step_in : ℕ → ℕ
step_in x = x / 256 % 256

abbrev pub length_in : ℕ → ℕ
length_in x = x % 65536

-- what is in the number x of each answer
abbrev pub IsIn : ℕ → Answer → Type 0
IsIn x Yes = (kind_in x ≡ 0) × (length_in x ≡ 0)
IsIn x (Written k) = (kind_in x ≡ 0) × (length_in x ≡ k)
IsIn x (No s c) = (kind_in x ≡ 1) × (side_in x ≡ side_number s) × (coalition_in x ≡ c)
IsIn x (Refused r) = (kind_in x ≡ 2) × (step_in x ≡ 0) × (refusal_in x ≡ r)
IsIn x (RefusedAt k r) = (kind_in x ≡ 2) × (step_in x ≡ k) × (refusal_in x ≡ r)

-- the numbers from the first to the last
infix 80 ◌to◌
pub data Range : Type 0 where
  ◌to◌ : ℕ → ℕ → Range

-- r is in one of the ranges
abbrev pub OneOf : List Range → ℕ → Type 0
OneOf [] r = ⊥
OneOf (a to b ∷ l) r = ((a ≤ r) × (r ≤ b)) ⊎ OneOf l r

-- the refusals of each call, 86 apart
abbrev pub question_refusals : List Range
question_refusals = 10 to 14 ∷ 84 to 85 ∷ 21 to 24 ∷ 31 to 34 ∷ 41 to 44 ∷ []

abbrev pub extract_refusals : List Range
extract_refusals = 51 to 51 ∷ 10 to 14 ∷ 84 to 85 ∷ 41 to 44 ∷ []

abbrev pub short_form_refusals : List Range
short_form_refusals = 7 to 8 ∷ 1 to 4 ∷ []

abbrev pub text_refusals : List Range
text_refusals = 7 to 7 ∷ 81 to 83 ∷ []

abbrev pub term_refusals : List Range
term_refusals = 7 to 7 ∷ 81 to 81 ∷ 1 to 4 ∷ []

abbrev pub derivation_refusals : List Range
derivation_refusals = 10 to 14 ∷ 84 to 85 ∷ 41 to 44 ∷ 60 to 60 ∷ []

abbrev pub step_refusals : List Range
step_refusals = 61 to 67 ∷ []

-- on a real day one of these refusals, on any other 86
abbrev pub OnDay : List Range → ℕ → ℕ → Type 0
OnDay refusals day r = ((real_date day ≡ true) × OneOf refusals r) ⊎ ((real_date day ≡ false) × (r ≡ 86))

-- the ledger is accepted, and c is a coalition of its names
pub record OfTheJob (ledger : List ℕ) (c : ℕ) : Type 0 where
  pub job : Ledger
  pub is : read_ledger ledger ≡ accepted job
  pub below : c < 2 ^ job.names

-- Acts-for and flows-to: yes, no by a coalition of the job, or refused.
abbrev pub AnswersQuestion : List ℕ → ℕ → Answer → Type 0
AnswersQuestion ledger day Yes = Unit {0}
AnswersQuestion ledger day (No s c) = OfTheJob ledger c
AnswersQuestion ledger day (Written k) = ⊥
AnswersQuestion ledger day (Refused r) = OnDay question_refusals day r
AnswersQuestion ledger day (RefusedAt k r) = ⊥

-- Extract: written, or refused.
abbrev pub AnswersExtract : ℕ → Answer → Type 0
AnswersExtract day Yes = Unit {0}
AnswersExtract day (No s c) = ⊥
AnswersExtract day (Written k) = ⊥
AnswersExtract day (Refused r) = OnDay extract_refusals day r
AnswersExtract day (RefusedAt k r) = ⊥

-- Short form, a text's codes and a term's text: written, of at most so many bytes, or refused.
abbrev pub AnswersFront : ℕ → List Range → Answer → Type 0
AnswersFront most refusals Yes = ⊥
AnswersFront most refusals (No s c) = ⊥
AnswersFront most refusals (Written k) = k ≤ most
AnswersFront most refusals (Refused r) = OneOf refusals r
AnswersFront most refusals (RefusedAt k r) = ⊥

-- Derivation check: accepted, refused, or refused at one of the steps, which are at most 64.
abbrev pub AnswersDerivation : List ℕ → ℕ → Answer → Type 0
AnswersDerivation d day Yes = Unit {0}
AnswersDerivation d day (No s c) = ⊥
AnswersDerivation d day (Written k) = ⊥
AnswersDerivation d day (Refused r) = OnDay derivation_refusals day r
AnswersDerivation d day (RefusedAt k r) = (step_count d ≤ 64) × (k < step_count d) × OneOf step_refusals r

-- The claims. Each is the promise of a function of module `numbers`.

pub record QuestionsAnswered : Type 0 where
  pub by_acts_for : (ledger p q label : List ℕ) (day : ℕ) → AnswersQuestion ledger day (acts_for ledger p q label day)
  pub by_flows_to : (ledger p q label : List ℕ) (day : ℕ) → AnswersQuestion ledger day (flows_to ledger p q label day)

abbrev pub ExtractsAnswered : Type 0
ExtractsAnswered = (ledger label : List ℕ) (day : ℕ) (buffer : List ℕ) → AnswersExtract day (extract ledger label day buffer).answer

abbrev pub ShortFormsAnswered : Type 0
ShortFormsAnswered = (n : ℕ) (term buffer : List ℕ) → AnswersFront 3700 short_form_refusals (shorten n term buffer).answer

pub record NotationAnswered : Type 0 where
  pub texts : (n : ℕ) (text buffer : List ℕ) → AnswersFront 64 text_refusals (read_text n text buffer).answer
  pub terms : (n : ℕ) (term buffer : List ℕ) → AnswersFront 192 term_refusals (write_term n term buffer).answer

abbrev pub DerivationsAnswered : Type 0
DerivationsAnswered = (derivation ledger label : List ℕ) (day : ℕ) → AnswersDerivation derivation day (check_derivation derivation ledger label day)

-- the number of an answer gives the answer back
abbrev pub ComesBack : Answer → Type 0
ComesBack answer = IsIn (number answer) answer

pub record AnswersComeBack : Type 0 where
  pub by_acts_for : (ledger p q label : List ℕ) (day : ℕ) → ComesBack (acts_for ledger p q label day)
  pub by_flows_to : (ledger p q label : List ℕ) (day : ℕ) → ComesBack (flows_to ledger p q label day)
  pub extracts : (ledger label : List ℕ) (day : ℕ) (buffer : List ℕ) → ComesBack (extract ledger label day buffer).answer
  pub short_forms : (n : ℕ) (term buffer : List ℕ) → ComesBack (shorten n term buffer).answer
  pub texts : (n : ℕ) (text buffer : List ℕ) → ComesBack (read_text n text buffer).answer
  pub terms : (n : ℕ) (term buffer : List ℕ) → ComesBack (write_term n term buffer).answer
  pub derivations : (derivation ledger label : List ℕ) (day : ℕ) → ComesBack (check_derivation derivation ledger label day)

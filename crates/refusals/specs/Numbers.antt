-- The number of each refusal (document 01, "Refusals by operation"; document 02). Assumes nothing: these are definitions.
use Rattle.std.specs.Prelude.{ℕ, ◌+◌}
use Rattle.refusals.specs.declared.TermRefusal.{TermRefusal}
use Rattle.refusals.specs.declared.TermRefusal.TheVariants.{Length, NoCode, EndsEarly, CodesLeft}
use Rattle.refusals.specs.declared.Refusal.{Refusal}
use Rattle.refusals.specs.declared.Refusal.TheVariants.{Term, P, Q, Label, Names, Room, LedgerLength, Check, Header, Grant, GrantTerm, GrantDay, GrantDays, ExtractLength, DerivationLength, TextLength, NoText, TextCodes, NotReal, Full, NoGrant}

abbrev pub term_number : TermRefusal → ℕ
term_number Length = 1
term_number NoCode = 2
term_number EndsEarly = 3
term_number CodesLeft = 4

abbrev pub refusal_number : Refusal → ℕ
refusal_number (Term why) = term_number why
refusal_number (P why) = 20 + term_number why
refusal_number (Q why) = 30 + term_number why
refusal_number (Label why) = 40 + term_number why
refusal_number Names = 7
refusal_number Room = 8
refusal_number LedgerLength = 10
refusal_number Check = 11
refusal_number Header = 12
refusal_number Grant = 13
refusal_number GrantTerm = 14
refusal_number GrantDay = 84
refusal_number GrantDays = 85
refusal_number ExtractLength = 51
refusal_number DerivationLength = 60
refusal_number TextLength = 81
refusal_number NoText = 82
refusal_number TextCodes = 83
refusal_number NotReal = 86
refusal_number Full = 87
refusal_number NoGrant = 88

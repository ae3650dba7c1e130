-- The worked cases, by evaluation of the definitions. Assumes nothing.
use mathlib.Core.Path.{◌≡◌, refl}
use Prim.Native.Nat.{ℕ}
use mathlib.Core.Bool.{true, or-true}
use mathlib.Core.List.{[], ◌∷◌}
use lib.ListN.{length}
use borrow.Author.Tests.{eq-eqb}
use Rattle.model.specs.Sides.{Side, confidentiality, integrity}
use Rattle.model.specs.Bytes.{zeros, pieces, joined}
use Rattle.model.specs.Coalitions.{member, every, within, lowest, mark, packed}
use Rattle.model.specs.Terms.{name, bottom, disj, project, codes, code_of, read_within, read_term, held}
use Rattle.model.specs.Dates.{date_or_none, in_order, in_days}
use Rattle.model.specs.Grants.{counts_under, gap, visible, spoken, heard, chosen, sound}
use Rattle.model.specs.Ledgers.{read_book, weighted, check_of, checked, grant_blocks, all_checked, header_form, grant_form, read_terms, read_days, read_grant, read_grants, read_ledger, with_check, ledger_of}
use Rattle.model.specs.Questions.{refutes, judge, across, sound_under, acts_for_under, flows_to_under, ask, acts_for, flows_to}
use Rattle.model.specs.Extracts.{packed_bytes, table, extract_of, extract}
use Rattle.demands.specs.Cases.{plain, one_grant, side_spoken, side_labelled, HeldEverywhere, WorkedCases, WrongTurns}

either_held : HeldEverywhere 2 (0x31 ∷ 0x40 ∷ 0x00 ∷ 0x41 ∷ 0x01 ∷ [])
unfolding code_of read_within read_term held
either_held = record { term = disj (project confidentiality (name 0)) (project integrity (name 1)); is = refl; everywhere = there }
  where
    there : (s : Side) (c : ℕ) → held (disj (project confidentiality (name 0)) (project integrity (name 1))) s c ≡ true
    there confidentiality c = or-true (member 0 c)
    there integrity c = refl

weakest_held : HeldEverywhere 2 (0x21 ∷ [])
unfolding code_of read_within read_term held
weakest_held = record { term = bottom; is = refl; everywhere = λ s c. refl }

pub worked_cases : WorkedCases
unfolding plain one_grant zeros pieces joined codes code_of read_within read_term member held every within gap visible spoken heard in_days counts_under chosen sound weighted check_of checked grant_blocks all_checked header_form grant_form read_terms date_or_none in_order read_days read_grant read_grants read_ledger read_book lowest refutes judge across sound_under acts_for_under flows_to_under ask acts_for flows_to mark packed packed_bytes table extract_of extract
worked_cases = record {
  a_either = either_held;
  a_weakest = weakest_held;
  B = λ day r. rw r;
  C = λ day r. rw r;
  d_strongest = λ day r. rw r;
  d_weakest = λ day r. rw r;
  E = λ day r. rw r;
  F = λ day r. rw r;
  G = λ day r. rw r;
  h_granted = λ day r buffer h. rw (r, eq-eqb (length buffer) 1024 h);
  h_plain = λ day r buffer h. rw (r, eq-eqb (length buffer) 1024 h);
  I = λ day r. rw r;
  J = λ day r. rw r;
}

pub wrong_turns : WrongTurns
unfolding plain side_spoken side_labelled zeros pieces joined codes code_of read_within read_term member held every within gap visible spoken heard in_days counts_under chosen sound weighted check_of checked grant_blocks all_checked header_form grant_form read_terms date_or_none in_order read_days read_grant read_grants read_ledger read_book lowest refutes judge across sound_under acts_for_under flows_to_under ask acts_for flows_to with_check ledger_of
wrong_turns = record {
  full_lacks_strongest = λ day r. rw r;
  flows_see_side = λ day r. rw r;
  visible_see_side = λ day r. rw r;
  invisible_see_side = λ day r. rw r;
  gap_see_side = λ day r. rw r;
  either_across = λ day r. rw r;
}

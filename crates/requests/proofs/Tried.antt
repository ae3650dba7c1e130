-- The cases of the requests, by evaluation of the definitions. Assumes nothing.
use mathlib.Core.Path.{refl}
use Rattle.model.specs.Sides.{confidentiality, integrity}
use Rattle.model.specs.Bytes.{zeros, same, pieces, joined}
use Rattle.model.specs.Coalitions.{member, every, within, proper_subset, lowest, those}
use Rattle.model.specs.Terms.{count, codes, code_of, read_all, read_within, read_term, held}
use Rattle.model.specs.Dates.{leap, days_in, real_date, next_day, days_later, add_days, date_or_none, in_order, in_days}
use Rattle.model.specs.Grants.{counts_under, gap, visible, spoken, heard, of_grant, chosen, sound}
use Rattle.model.specs.Ledgers.{read_book, weighted, check_of, checked, grant_blocks, all_checked, header_form, grant_form, read_terms, read_days, read_grant, read_block, read_grants, read_ledger, with_check, ledger_of}
use Rattle.model.specs.Questions.{refutes, judge, across, sound_under, acts_for_under, ask, acts_for}
use Rattle.model.specs.Testing.{test, test_under}
use Rattle.model.specs.Live.{make, breaks_counting, added, grant_at, withdrawn, acts_for_live, flows_to_live, ask_live, step, run}
use Rattle.model.specs.Extracts.{extract_of, extract}
use Rattle.model.specs.ShortForms.{minimal, pairs, listed, short_form, short_form_of}
use Rattle.model.specs.Derivations.{rule_of, step_form, read_left, read_right, meets, check_step, check_steps, check_derivation}
use Rattle.model.specs.Texts.{places, flat, term, rank, fewest}
use Rattle.model.specs.Notation.{last_of, read_deep, text_codes, term_text}
use Rattle.requests.specs.Cases.{NotationCases, block_of, dated, DayCases, grant_block_of, four_grants, two_grants, TestCases, long_term, QuorumCases, GapCases}
use Rattle.model.specs.Voice.{voice, spoken_by_voice}
use Rattle.requests.specs.LiveCases.{block_a, block_b, block_c, LiveCases}

pub notation_cases : NotationCases
unfolding codes code_of read_within read_term flat term rank fewest last_of read_deep text_codes term_text
notation_cases = record {
  read_1 = refl;
  read_2 = refl;
  read_3 = refl;
  read_4 = refl;
  read_5 = refl;
  read_6 = refl;
  no_text_1 = refl;
  no_text_2 = refl;
  no_text_3 = refl;
  no_text_4 = refl;
  no_text_5 = refl;
  no_text_6 = refl;
  no_text_7 = refl;
  no_text_8 = refl;
  too_many = refl;
  too_many_and_no_text = refl;
  too_long = refl;
  no_names = refl;
  thirteen_names = refl;
  large_buffer = refl;
  write_1 = refl;
  write_2 = refl;
  write_3 = refl;
  write_4 = refl;
  write_5 = refl;
  large_text_buffer = refl;
}

pub day_cases : DayCases
unfolding dated block_of zeros same pieces joined codes code_of read_within read_term member held every within gap visible spoken heard in_days counts_under of_grant chosen sound weighted check_of checked grant_blocks all_checked header_form grant_form read_terms leap days_in real_date next_day days_later add_days date_or_none in_order read_days read_grant read_grants read_ledger read_book lowest refutes judge sound_under acts_for_under ask acts_for extract_of extract with_check ledger_of rule_of step_form read_left read_right meets check_step check_steps check_derivation
day_cases = record {
  on_the_last_day = refl;
  after_last = refl;
  on_the_first_day = refl;
  before_first = refl;
  one_day = refl;
  dates = refl;
  check = refl;
  date_first = refl;
  kind_first = refl;
  term_before_date = refl;
  reversed = refl;
  date_before_order = refl;
  granting_on_last = refl;
  granting_after_last = refl;
  bad_day = refl;
  leap_2024 = refl;
  no_leap_2023 = refl;
  no_leap_1900 = refl;
  leap_2000 = refl;
  no_leap_2100 = refl;
  no_date = refl;
  added_30 = refl;
  added_366 = refl;
  past_2199 = refl;
  no_such_date = refl;
  added_367 = refl;
}

pub test_cases : TestCases
unfolding four_grants two_grants grant_block_of zeros pieces joined code_of read_within read_term member held every within gap visible spoken heard in_days counts_under chosen weighted check_of checked grant_blocks all_checked header_form grant_form read_terms date_or_none in_order read_days read_grant read_grants read_ledger read_book with_check ledger_of test test_under
test_cases = record {
  four_0 = elim [ confidentiality ↦ refl | integrity ↦ refl ];
  four_1 = elim [ confidentiality ↦ refl | integrity ↦ refl ];
  four_2 = elim [ confidentiality ↦ refl | integrity ↦ refl ];
  four_3 = elim [ confidentiality ↦ refl | integrity ↦ refl ];
  no_grants = elim [ confidentiality ↦ refl | integrity ↦ refl ];
  see_0 = refl;
  see_1 = refl;
  see_0_kept = refl;
  see_1_kept = refl;
  change_0 = refl;
  change_1 = refl;
  change_2 = refl;
  change_3 = refl;
}

pub quorum_cases : QuorumCases
unfolding long_term count codes code_of read_all read_within read_term member held every proper_subset those minimal pairs listed short_form short_form_of places flat term rank fewest last_of read_deep text_codes term_text
quorum_cases = record {
  no_k = refl;
  no_m = refl;
  k_not_judged = refl;
  no_m_inside = refl;
  no_part = refl;
  k_zero = refl;
  k_over_m = refl;
  m_thirteen = refl;
  first_part_first = refl;
  a_code_left = refl;
  read_1 = refl;
  read_2 = refl;
  read_3 = refl;
  too_few_places = refl;
  leading_zero_of_k = refl;
  leading_zero_of_m = refl;
  k_over_m_places = refl;
  empty_place = refl;
  zero_places_asked = refl;
  thirteen_places = refl;
  no_numbers = refl;
  no_places = refl;
  write_1 = refl;
  write_2 = refl;
  write_3 = refl;
  equal_parts = elim [ confidentiality ↦ refl | integrity ↦ refl ];
  other_part = elim [ confidentiality ↦ refl | integrity ↦ refl ];
  more_than_k = elim [ confidentiality ↦ refl | integrity ↦ refl ];
  one_part_once = elim [ confidentiality ↦ refl | integrity ↦ refl ];
  see_none = refl;
  see_first = refl;
  change_first = refl;
  change_second = refl;
  by_short_form = refl;
  codes_64 = refl;
  codes_65 = refl;
  codes_64_read = refl;
  codes_65_read = refl;
  longest = refl;
}

pub live_cases : LiveCases
unfolding block_a block_b block_c block_of grant_block_of zeros code_of read_within read_term member held every within gap visible spoken heard leap days_in real_date in_days counts_under weighted check_of checked grant_form read_terms date_or_none in_order read_days read_grant read_block with_check lowest refutes across judge make breaks_counting added grant_at withdrawn acts_for_live flows_to_live ask_live step run
live_cases = record {
  new_number = elim [ confidentiality ↦ refl | integrity ↦ refl ];
  new_acts_for = refl;
  one_number = elim [ confidentiality ↦ refl | integrity ↦ refl ];
  one_acts_for = refl;
  one_flows_to = refl;
  part_number = elim [ confidentiality ↦ refl | integrity ↦ refl ];
  part_acts_for = refl;
  two_number = elim [ confidentiality ↦ refl | integrity ↦ refl ];
  twin_number = elim [ confidentiality ↦ refl | integrity ↦ refl ];
  twin_acts_for = refl;
  none_acts_for = refl;
  none_withdraw = refl;
  bad_day = refl;
  bad_names = refl;
  no_label = refl;
  bad_label = refl;
  moved_down = refl;
  none_at_2 = refl;
}

pub gap_cases : GapCases
unfolding grant_block_of zeros pieces joined code_of read_within read_term member held every within gap visible spoken heard in_days counts_under chosen sound voice spoken_by_voice weighted check_of checked grant_blocks all_checked header_form grant_form read_terms date_or_none in_order read_days read_grant read_grants read_ledger read_book with_check ledger_of lowest refutes judge sound_under acts_for_under ask acts_for
gap_cases = record {
  part_spoken = λ day r. rw r;
  not_by_voice = refl;
  see_unspoken = λ day r. rw r;
  see_spoken = λ day r. rw r;
  nothing_lacked = refl;
}

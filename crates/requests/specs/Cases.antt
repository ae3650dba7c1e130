-- Document 02: the cases of the requests, on their own bytes, characters and numbers. Assumes nothing: these are the statements.
use Rattle.std.specs.Prelude.{◌≡◌, ℕ, ◌-◌, ◌/◌, ◌%◌, Bool, true, false, List, [], ◌∷◌, ◌++◌, length, replicate}
use Rattle.model.specs.Sides.{Side, confidentiality, integrity}
use Rattle.model.specs.Readings.{Reading, accepted, refused, and_then}
use Rattle.model.specs.Bytes.{field, big_endian}
use Rattle.model.specs.Terms.{name, bottom, conj, project, read_term, held}
use Rattle.model.specs.Dates.{real_date, add_days}
use Rattle.model.specs.Grants.{spoken}
use Rattle.model.specs.Ledgers.{read_ledger, read_book, with_check, ledger_of}
use Rattle.model.specs.Answers.{Answer, Yes, No, Refused, RefusedAt}
use Rattle.model.specs.Questions.{acts_for}
use Rattle.model.specs.Testing.{Tested, test_under}
use Rattle.model.specs.Extracts.{extract}
use Rattle.model.specs.ShortForms.{short_form_of}
use Rattle.model.specs.Derivations.{check_derivation}
use Rattle.model.specs.Notation.{text_codes, term_text}
use Rattle.model.specs.Voice.{spoken_by_voice}
use Rattle.demands.specs.Cases.{code1, code2, Daily}
use Rattle.requests.specs.Testing.{broken_after, sound_after}

-- K1: a written notation
pub record NotationCases : Type 0 where
  -- a|b|c: joined by | from the left
  pub read_1 : text_codes 3 (0x61 ∷ 0x7C ∷ 0x62 ∷ 0x7C ∷ 0x63 ∷ []) 64 ≡ accepted (0x31 ∷ 0x31 ∷ 0x00 ∷ 0x01 ∷ 0x02 ∷ [])
  -- a|(b|c): brackets group to the right
  pub read_2 : text_codes 3 (0x61 ∷ 0x7C ∷ 0x28 ∷ 0x62 ∷ 0x7C ∷ 0x63 ∷ 0x29 ∷ []) 64 ≡ accepted (0x31 ∷ 0x00 ∷ 0x31 ∷ 0x01 ∷ 0x02 ∷ [])
  -- a|b&c: & binds closer
  pub read_3 : text_codes 3 (0x61 ∷ 0x7C ∷ 0x62 ∷ 0x26 ∷ 0x63 ∷ []) 64 ≡ accepted (0x31 ∷ 0x00 ∷ 0x30 ∷ 0x01 ∷ 0x02 ∷ [])
  -- a&b>: > is of the last atom
  pub read_4 : text_codes 2 (0x61 ∷ 0x26 ∷ 0x62 ∷ 0x3E ∷ []) 64 ≡ accepted (0x30 ∷ 0x00 ∷ 0x40 ∷ 0x01 ∷ [])
  -- (a&b)><: the last sign is the outermost
  pub read_5 : text_codes 2 (0x28 ∷ 0x61 ∷ 0x26 ∷ 0x62 ∷ 0x29 ∷ 0x3E ∷ 0x3C ∷ []) 64 ≡ accepted (0x41 ∷ 0x40 ∷ 0x30 ∷ 0x00 ∷ 0x01 ∷ [])
  -- a<>: signs after a name
  pub read_6 : text_codes 1 (0x61 ∷ 0x3C ∷ 0x3E ∷ []) 64 ≡ accepted (0x40 ∷ 0x41 ∷ 0x00 ∷ [])
  -- c
  pub no_text_1 : text_codes 2 (0x63 ∷ []) 64 ≡ refused 82
  -- ()
  pub no_text_2 : text_codes 2 (0x28 ∷ 0x29 ∷ []) 64 ≡ refused 82
  -- a&
  pub no_text_3 : text_codes 2 (0x61 ∷ 0x26 ∷ []) 64 ≡ refused 82
  -- >a
  pub no_text_4 : text_codes 2 (0x3E ∷ 0x61 ∷ []) 64 ≡ refused 82
  -- a b
  pub no_text_5 : text_codes 2 (0x61 ∷ 0x20 ∷ 0x62 ∷ []) 64 ≡ refused 82
  -- A
  pub no_text_6 : text_codes 2 (0x41 ∷ []) 64 ≡ refused 82
  -- (a
  pub no_text_7 : text_codes 2 (0x28 ∷ 0x61 ∷ []) 64 ≡ refused 82
  -- a)
  pub no_text_8 : text_codes 2 (0x61 ∷ 0x29 ∷ []) 64 ≡ refused 82
  -- a and 64 times >
  pub too_many : text_codes 1 (0x61 ∷ replicate 64 0x3E) 64 ≡ refused 83
  -- a, 64 times > and then &: 82 comes before 83
  pub too_many_and_no_text : text_codes 1 (0x61 ∷ replicate 64 0x3E ++ 0x26 ∷ []) 64 ≡ refused 82
  -- a and 256 times >
  pub too_long : text_codes 1 (0x61 ∷ replicate 256 0x3E) 64 ≡ refused 81
  -- an empty text, and n 0 or 13: 7 comes before 81
  pub no_names : text_codes 0 [] 64 ≡ refused 7
  pub thirteen_names : text_codes 13 [] 64 ≡ refused 7
  -- a buffer of 65 bytes
  pub large_buffer : text_codes 1 (0x61 ∷ []) 65 ≡ refused 81
  -- (a|b)&c
  pub write_1 : term_text 3 (0x30 ∷ 0x31 ∷ 0x00 ∷ 0x01 ∷ 0x02 ∷ []) 256 ≡ accepted (0x28 ∷ 0x61 ∷ 0x7C ∷ 0x62 ∷ 0x29 ∷ 0x26 ∷ 0x63 ∷ [])
  -- a&(b&c)
  pub write_2 : term_text 3 (0x30 ∷ 0x00 ∷ 0x30 ∷ 0x01 ∷ 0x02 ∷ []) 256 ≡ accepted (0x61 ∷ 0x26 ∷ 0x28 ∷ 0x62 ∷ 0x26 ∷ 0x63 ∷ 0x29 ∷ [])
  -- a|b|c
  pub write_3 : term_text 3 (0x31 ∷ 0x31 ∷ 0x00 ∷ 0x01 ∷ 0x02 ∷ []) 256 ≡ accepted (0x61 ∷ 0x7C ∷ 0x62 ∷ 0x7C ∷ 0x63 ∷ [])
  -- a<>
  pub write_4 : term_text 2 (0x40 ∷ 0x41 ∷ 0x00 ∷ []) 256 ≡ accepted (0x61 ∷ 0x3C ∷ 0x3E ∷ [])
  -- (a&b)><
  pub write_5 : term_text 2 (0x41 ∷ 0x40 ∷ 0x30 ∷ 0x00 ∷ 0x01 ∷ []) 256 ≡ accepted (0x28 ∷ 0x61 ∷ 0x26 ∷ 0x62 ∷ 0x29 ∷ 0x3E ∷ 0x3C ∷ [])
  -- a buffer of 257 bytes
  pub large_text_buffer : term_text 1 (0x00 ∷ []) 257 ≡ refused 81

-- ---- K2: grants with a first and last day

-- Granted's grant block with a kind, a p of one code, a first and a last day
unfoldable pub block_of : ℕ → ℕ → ℕ → ℕ → List ℕ
block_of kind p first last = with_check (kind ∷ 0x01 ∷ 0x01 ∷ 0x02 ∷ replicate 12 0 ++ code1 p ++ code1 0x01 ++ code2 0x41 0x01
    ++ big_endian (first / 65536) ++ big_endian (first % 65536) ++ big_endian (last / 65536) ++ big_endian (last % 65536) ++ replicate 294 0)

abbrev pub dated_block : ℕ → ℕ → List ℕ
dated_block first last = block_of 0x02 0x00 first last

-- Granted with these days
unfoldable pub dated : ℕ → ℕ → List ℕ
dated first last = ledger_of 2 (dated_block first last ∷ [])

-- does 00 act for 01 under 41 01, Granted's grant having these days, on the day
abbrev pub asked_on : ℕ → ℕ → ℕ → Answer
asked_on first last day = acts_for (dated first last) (0x00 ∷ []) (0x01 ∷ []) (0x41 ∷ 0x01 ∷ []) day

-- one step by rule 2, 00 for 01 by grant 0
abbrev pub granting : List ℕ
granting = 0x02 ∷ 0x00 ∷ 0x00 ∷ 0x00 ∷ 0x01 ∷ 0x01 ∷ 0x00 ∷ 0x00 ∷ code1 0x00 ++ code1 0x01

pub record DayCases : Type 0 where
  -- both edges are inside, and 0 is no edge
  pub on_the_last_day : asked_on 0 20240131 20240131 ≡ Yes
  pub after_last : asked_on 0 20240131 20240201 ≡ No confidentiality 1
  pub on_the_first_day : asked_on 20240131 0 20240131 ≡ Yes
  pub before_first : asked_on 20240131 0 20240130 ≡ No confidentiality 1
  pub one_day : asked_on 20240131 20240131 20240131 ≡ Yes
  -- the bytes of the days 20240101 to 20240131, and the check of Granted's grant block with them
  pub dates : field 208 8 (dated_block 20240101 20240131) ≡ (0x01 ∷ 0x34 ∷ 0xD6 ∷ 0xE5 ∷ 0x01 ∷ 0x34 ∷ 0xD7 ∷ 0x03 ∷ [])
  pub check : field 510 2 (dated_block 20240101 20240131) ≡ (0xA2 ∷ 0xC6 ∷ [])
  -- grant by grant: a bad date of the first is refused before the kind of the second, and the other way round
  pub date_first : read_ledger (ledger_of 2 (dated_block 0 20240230 ∷ block_of 0x03 0x00 0 0 ∷ [])) ≡ refused 84
  pub kind_first : read_ledger (ledger_of 2 (block_of 0x03 0x00 0 0 ∷ dated_block 0 20240230 ∷ [])) ≡ refused 13
  -- of one grant: an unknown name before a bad date
  pub term_before_date : read_ledger (ledger_of 2 (block_of 0x02 0x02 0 20240230 ∷ [])) ≡ refused 14
  -- days in the wrong order, and a date that is not real before that
  pub reversed : read_ledger (dated 20240131 20240130) ≡ refused 85
  pub date_before_order : read_ledger (dated 20240132 20240130) ≡ refused 84
  -- a derivation may use the grant on its last day, and not after
  pub granting_on_last : check_derivation granting (dated 0 20240131) (0x41 ∷ 0x01 ∷ []) 20240131 ≡ Yes
  pub granting_after_last : check_derivation granting (dated 0 20240131) (0x41 ∷ 0x01 ∷ []) 20240201 ≡ RefusedAt 0 66
  -- a bad day comes before a short buffer and a short ledger
  pub bad_day : extract (0x01 ∷ []) (0x41 ∷ 0x01 ∷ []) 0 (0x00 ∷ 0x00 ∷ 0x00 ∷ []) ≡ record { answer = Refused 86; buffer = 0x00 ∷ 0x00 ∷ 0x00 ∷ [] }
  -- leap years
  pub leap_2024 : real_date 20240229 ≡ true
  pub no_leap_2023 : real_date 20230229 ≡ false
  pub no_leap_1900 : real_date 19000229 ≡ false
  pub leap_2000 : real_date 20000229 ≡ true
  pub no_leap_2100 : real_date 21000229 ≡ false
  -- 0 is no date
  pub no_date : real_date 0 ≡ false
  pub added_30 : add_days 20240131 30 ≡ accepted 20240301
  pub added_366 : add_days 20991231 366 ≡ accepted 21010101
  pub past_2199 : add_days 21991231 1 ≡ refused 86
  pub no_such_date : add_days 20230229 0 ≡ refused 86
  pub added_367 : add_days 20240131 367 ≡ refused 86

-- ---- K3: stop at the broken grant

abbrev pub field_of : List ℕ → List ℕ
field_of codes = codes ++ replicate (64 - length codes) 0

-- a grant's block: p, q and the label, without days
unfoldable pub grant_block_of : List ℕ → List ℕ → List ℕ → List ℕ
grant_block_of p q label = with_check (0x02 ∷ length p ∷ length q ∷ length label ∷ replicate 12 0 ++ field_of p ++ field_of q ++ field_of label ++ replicate 302 0)

-- of two names and these grants, tested under 21
abbrev pub test_with : List (List ℕ) → Side → ℕ → Reading Tested
test_with grants s c = and_then (read_book (ledger_of 2 grants) (0x21 ∷ []) 20240131) (λ b. accepted (test_under b.ledger b.asked s c))

-- 00 for 01, 00 for 20, 01 for 00, and 00 for 01 again; the label of the second is 41 00, so that it is not spoken, those of the others 41 20
unfoldable pub four_grants : List (List ℕ)
four_grants = grant_block_of (0x00 ∷ []) (0x01 ∷ []) (0x41 ∷ 0x20 ∷ []) ∷ grant_block_of (0x00 ∷ []) (0x20 ∷ []) (0x41 ∷ 0x00 ∷ [])
    ∷ grant_block_of (0x01 ∷ []) (0x00 ∷ []) (0x41 ∷ 0x20 ∷ []) ∷ grant_block_of (0x00 ∷ []) (0x01 ∷ []) (0x41 ∷ 0x20 ∷ []) ∷ []

-- 40 00 for 01, and 41 01 for q, both labelled 41 20
unfoldable pub two_grants : List ℕ → List (List ℕ)
two_grants q = grant_block_of (0x40 ∷ 0x00 ∷ []) (0x01 ∷ []) (0x41 ∷ 0x20 ∷ []) ∷ grant_block_of (0x41 ∷ 0x01 ∷ []) q (0x41 ∷ 0x20 ∷ []) ∷ []

pub record TestCases : Type 0 where
  -- on both sides alike
  pub four_0 : (s : Side) → test_with four_grants s 0 ≡ accepted (sound_after 3)
  pub four_1 : (s : Side) → test_with four_grants s 1 ≡ accepted (broken_after 1)
  pub four_2 : (s : Side) → test_with four_grants s 2 ≡ accepted (broken_after 2)
  pub four_3 : (s : Side) → test_with four_grants s 3 ≡ accepted (sound_after 3)
  pub no_grants : (s : Side) → test_with [] s 0 ≡ accepted (sound_after 0)
  -- on the see side 41 01 is held by all, and 20 by none
  pub see_0 : test_with (two_grants (0x20 ∷ [])) confidentiality 0 ≡ accepted (broken_after 2)
  pub see_1 : test_with (two_grants (0x20 ∷ [])) confidentiality 1 ≡ accepted (broken_after 1)
  -- there 41 20 is held by all
  pub see_0_kept : test_with (two_grants (0x41 ∷ 0x20 ∷ [])) confidentiality 0 ≡ accepted (sound_after 2)
  pub see_1_kept : test_with (two_grants (0x41 ∷ 0x20 ∷ [])) confidentiality 1 ≡ accepted (broken_after 1)
  -- on the change side 40 00 is held by all, and 01 by 2 and 3
  pub change_0 : test_with (two_grants (0x20 ∷ [])) integrity 0 ≡ accepted (broken_after 1)
  pub change_1 : test_with (two_grants (0x20 ∷ [])) integrity 1 ≡ accepted (broken_after 1)
  pub change_2 : test_with (two_grants (0x20 ∷ [])) integrity 2 ≡ accepted (broken_after 2)
  pub change_3 : test_with (two_grants (0x20 ∷ [])) integrity 3 ≡ accepted (broken_after 2)

-- ---- K4: quorums

-- whether the coalition holds the term of three names on the side
abbrev pub read_and_held : List ℕ → Side → ℕ → Reading Bool
read_and_held bytes s c = and_then (read_term 3 bytes) (λ t. accepted (held t s c))

-- ten of eleven, of which four are quorums: ten of eleven a, twice, and ten of ten a, twice
unfoldable pub long_term : List ℕ
long_term = 0x32 ∷ 0x0A ∷ 0x0B ∷ 0x32 ∷ 0x0A ∷ 0x0B ∷ replicate 11 0 ++ 0x32 ∷ 0x0A ∷ 0x0B ∷ replicate 11 0
    ++ 0x32 ∷ 0x0A ∷ 0x0A ∷ replicate 10 0 ++ 0x32 ∷ 0x0A ∷ 0x0A ∷ replicate 17 0

-- of three names
pub record QuorumCases : Type 0 where
  -- 32, 32 00, 32 FF and 30 32 00 have no m, and k is not judged yet
  pub no_k : read_term 3 (0x32 ∷ []) ≡ refused 3
  pub no_m : read_term 3 (0x32 ∷ 0x00 ∷ []) ≡ refused 3
  pub k_not_judged : read_term 3 (0x32 ∷ 0xFF ∷ []) ≡ refused 3
  pub no_m_inside : read_term 3 (0x30 ∷ 0x32 ∷ 0x00 ∷ []) ≡ refused 3
  -- 32 01 01 has no part
  pub no_part : read_term 3 (0x32 ∷ 0x01 ∷ 0x01 ∷ []) ≡ refused 3
  -- k 0, k over m, m 13
  pub k_zero : read_term 3 (0x32 ∷ 0x00 ∷ 0x05 ∷ []) ≡ refused 2
  pub k_over_m : read_term 3 (0x32 ∷ 0x03 ∷ 0x02 ∷ 0x00 ∷ 0x01 ∷ []) ≡ refused 2
  pub m_thirteen : read_term 3 (0x32 ∷ 0x01 ∷ 0x0D ∷ []) ≡ refused 2
  -- the first part is no term, and the second is missing
  pub first_part_first : read_term 3 (0x32 ∷ 0x01 ∷ 0x02 ∷ 0x0C ∷ []) ≡ refused 2
  -- a code after the last part
  pub a_code_left : read_term 3 (0x32 ∷ 0x01 ∷ 0x02 ∷ 0x00 ∷ 0x01 ∷ 0x32 ∷ []) ≡ refused 4
  -- 2:3(a|b,c&a>,_)<&b
  pub read_1 : text_codes 3 (0x32 ∷ 0x3A ∷ 0x33 ∷ 0x28 ∷ 0x61 ∷ 0x7C ∷ 0x62 ∷ 0x2C ∷ 0x63 ∷ 0x26 ∷ 0x61 ∷ 0x3E ∷ 0x2C ∷ 0x5F ∷ 0x29 ∷ 0x3C ∷ 0x26 ∷ 0x62 ∷ []) 64 ≡ accepted (0x30 ∷ 0x41 ∷ 0x32 ∷ 0x02 ∷ 0x03 ∷ 0x31 ∷ 0x00 ∷ 0x01 ∷ 0x30 ∷ 0x02 ∷ 0x40 ∷ 0x00 ∷ 0x21 ∷ 0x01 ∷ [])
  -- 1:1(a)
  pub read_2 : text_codes 3 (0x31 ∷ 0x3A ∷ 0x31 ∷ 0x28 ∷ 0x61 ∷ 0x29 ∷ []) 64 ≡ accepted (0x32 ∷ 0x01 ∷ 0x01 ∷ 0x00 ∷ [])
  -- 1:2(2:2(a,b),c)
  pub read_3 : text_codes 3 (0x31 ∷ 0x3A ∷ 0x32 ∷ 0x28 ∷ 0x32 ∷ 0x3A ∷ 0x32 ∷ 0x28 ∷ 0x61 ∷ 0x2C ∷ 0x62 ∷ 0x29 ∷ 0x2C ∷ 0x63 ∷ 0x29 ∷ []) 64 ≡ accepted (0x32 ∷ 0x01 ∷ 0x02 ∷ 0x32 ∷ 0x02 ∷ 0x02 ∷ 0x00 ∷ 0x01 ∷ 0x02 ∷ [])
  -- 2:3(a,b)
  pub too_few_places : text_codes 3 (0x32 ∷ 0x3A ∷ 0x33 ∷ 0x28 ∷ 0x61 ∷ 0x2C ∷ 0x62 ∷ 0x29 ∷ []) 64 ≡ refused 82
  -- 02:3(a,b,c)
  pub leading_zero_of_k : text_codes 3 (0x30 ∷ 0x32 ∷ 0x3A ∷ 0x33 ∷ 0x28 ∷ 0x61 ∷ 0x2C ∷ 0x62 ∷ 0x2C ∷ 0x63 ∷ 0x29 ∷ []) 64 ≡ refused 82
  -- 2:03(a,b,c)
  pub leading_zero_of_m : text_codes 3 (0x32 ∷ 0x3A ∷ 0x30 ∷ 0x33 ∷ 0x28 ∷ 0x61 ∷ 0x2C ∷ 0x62 ∷ 0x2C ∷ 0x63 ∷ 0x29 ∷ []) 64 ≡ refused 82
  -- 4:3(a,b,c)
  pub k_over_m_places : text_codes 3 (0x34 ∷ 0x3A ∷ 0x33 ∷ 0x28 ∷ 0x61 ∷ 0x2C ∷ 0x62 ∷ 0x2C ∷ 0x63 ∷ 0x29 ∷ []) 64 ≡ refused 82
  -- 2:2(a,b,)
  pub empty_place : text_codes 3 (0x32 ∷ 0x3A ∷ 0x32 ∷ 0x28 ∷ 0x61 ∷ 0x2C ∷ 0x62 ∷ 0x2C ∷ 0x29 ∷ []) 64 ≡ refused 82
  -- 0:1(a)
  pub zero_places_asked : text_codes 3 (0x30 ∷ 0x3A ∷ 0x31 ∷ 0x28 ∷ 0x61 ∷ 0x29 ∷ []) 64 ≡ refused 82
  -- 1:13(a,..,a), with 13 places
  pub thirteen_places : text_codes 3 (0x31 ∷ 0x3A ∷ 0x31 ∷ 0x33 ∷ 0x28 ∷ 0x61 ∷ 0x2C ∷ 0x61 ∷ 0x2C ∷ 0x61 ∷ 0x2C ∷ 0x61 ∷ 0x2C ∷ 0x61 ∷ 0x2C ∷ 0x61 ∷ 0x2C ∷ 0x61 ∷ 0x2C ∷ 0x61 ∷ 0x2C ∷ 0x61 ∷ 0x2C ∷ 0x61 ∷ 0x2C ∷ 0x61 ∷ 0x2C ∷ 0x61 ∷ 0x2C ∷ 0x61 ∷ 0x29 ∷ []) 64 ≡ refused 82
  -- (a,b)
  pub no_numbers : text_codes 3 (0x28 ∷ 0x61 ∷ 0x2C ∷ 0x62 ∷ 0x29 ∷ []) 64 ≡ refused 82
  -- 2:3
  pub no_places : text_codes 3 (0x32 ∷ 0x3A ∷ 0x33 ∷ []) 64 ≡ refused 82
  -- 2:3(a|b,c>,a&_)>
  pub write_1 : term_text 3 (0x40 ∷ 0x32 ∷ 0x02 ∷ 0x03 ∷ 0x31 ∷ 0x00 ∷ 0x01 ∷ 0x40 ∷ 0x02 ∷ 0x30 ∷ 0x00 ∷ 0x21 ∷ []) 256 ≡ accepted (0x32 ∷ 0x3A ∷ 0x33 ∷ 0x28 ∷ 0x61 ∷ 0x7C ∷ 0x62 ∷ 0x2C ∷ 0x63 ∷ 0x3E ∷ 0x2C ∷ 0x61 ∷ 0x26 ∷ 0x5F ∷ 0x29 ∷ 0x3E ∷ [])
  -- 1:1(a)
  pub write_2 : term_text 3 (0x32 ∷ 0x01 ∷ 0x01 ∷ 0x00 ∷ []) 256 ≡ accepted (0x31 ∷ 0x3A ∷ 0x31 ∷ 0x28 ∷ 0x61 ∷ 0x29 ∷ [])
  -- 2:2(a|b,c)&1:2(a,b|c)
  pub write_3 : term_text 3 (0x30 ∷ 0x32 ∷ 0x02 ∷ 0x02 ∷ 0x31 ∷ 0x00 ∷ 0x01 ∷ 0x02 ∷ 0x32 ∷ 0x01 ∷ 0x02 ∷ 0x00 ∷ 0x31 ∷ 0x01 ∷ 0x02 ∷ []) 256 ≡ accepted (0x32 ∷ 0x3A ∷ 0x32 ∷ 0x28 ∷ 0x61 ∷ 0x7C ∷ 0x62 ∷ 0x2C ∷ 0x63 ∷ 0x29 ∷ 0x26 ∷ 0x31 ∷ 0x3A ∷ 0x32 ∷ 0x28 ∷ 0x61 ∷ 0x2C ∷ 0x62 ∷ 0x7C ∷ 0x63 ∷ 0x29 ∷ [])
  -- 2:3(a,a,b) is held by {a} and not by {b}: parts count by place
  pub equal_parts : (s : Side) → read_and_held (0x32 ∷ 0x02 ∷ 0x03 ∷ 0x00 ∷ 0x00 ∷ 0x01 ∷ []) s 1 ≡ accepted true
  pub other_part : (s : Side) → read_and_held (0x32 ∷ 0x02 ∷ 0x03 ∷ 0x00 ∷ 0x00 ∷ 0x01 ∷ []) s 2 ≡ accepted false
  -- 1:2(a,b) is held by {a, b}
  pub more_than_k : (s : Side) → read_and_held (0x32 ∷ 0x01 ∷ 0x02 ∷ 0x00 ∷ 0x01 ∷ []) s 3 ≡ accepted true
  -- 2:2(a,b) is not held by {a}
  pub one_part_once : (s : Side) → read_and_held (0x32 ∷ 0x02 ∷ 0x02 ∷ 0x00 ∷ 0x01 ∷ []) s 1 ≡ accepted false
  -- 2:2(a>,b<): on the see side a is asked for, on the change side b; the counts are not pooled
  pub see_none : read_and_held (0x32 ∷ 0x02 ∷ 0x02 ∷ 0x40 ∷ 0x00 ∷ 0x41 ∷ 0x01 ∷ []) confidentiality 0 ≡ accepted false
  pub see_first : read_and_held (0x32 ∷ 0x02 ∷ 0x02 ∷ 0x40 ∷ 0x00 ∷ 0x41 ∷ 0x01 ∷ []) confidentiality 1 ≡ accepted true
  pub change_first : read_and_held (0x32 ∷ 0x02 ∷ 0x02 ∷ 0x40 ∷ 0x00 ∷ 0x41 ∷ 0x01 ∷ []) integrity 1 ≡ accepted false
  pub change_second : read_and_held (0x32 ∷ 0x02 ∷ 0x02 ∷ 0x40 ∷ 0x00 ∷ 0x41 ∷ 0x01 ∷ []) integrity 2 ≡ accepted true
  -- three minimal coalitions a side: 3, 5 and 6
  pub by_short_form : short_form_of 3 (0x32 ∷ 0x02 ∷ 0x03 ∷ 0x00 ∷ 0x01 ∷ 0x02 ∷ []) 3700 ≡ accepted (0 ∷ 3 ∷ 0 ∷ 3 ∷ 0 ∷ 5 ∷ 0 ∷ 6 ∷ 0 ∷ 3 ∷ 0 ∷ 3 ∷ 0 ∷ 5 ∷ 0 ∷ 6 ∷ [])
  -- k and m count towards the 64 codes: 60 or 61 times 40 before 32 01 01 00, 60 or 61 times > after 1:1(a)
  pub codes_64 : read_and_held (replicate 60 0x40 ++ 0x32 ∷ 0x01 ∷ 0x01 ∷ 0x00 ∷ []) confidentiality 1 ≡ accepted true
  pub codes_65 : read_term 3 (replicate 61 0x40 ++ 0x32 ∷ 0x01 ∷ 0x01 ∷ 0x00 ∷ []) ≡ refused 1
  pub codes_64_read : text_codes 3 ((0x31 ∷ 0x3A ∷ 0x31 ∷ 0x28 ∷ 0x61 ∷ 0x29 ∷ []) ++ replicate 60 0x3E) 64 ≡ accepted (replicate 60 0x40 ++ 0x32 ∷ 0x01 ∷ 0x01 ∷ 0x00 ∷ [])
  pub codes_65_read : text_codes 3 ((0x31 ∷ 0x3A ∷ 0x31 ∷ 0x28 ∷ 0x61 ∷ 0x29 ∷ []) ++ replicate 61 0x3E) 64 ≡ refused 83
  -- 64 codes in 132 characters
  pub longest : and_then (term_text 3 long_term 256) (λ text. accepted (length text)) ≡ accepted 132

-- ---- K6: only the missing part must be spoken

-- two names and this grant
abbrev pub granting_part : List ℕ → List ℕ → List ℕ → List ℕ
granting_part p q label = ledger_of 2 (grant_block_of p q label ∷ [])

-- On every real day. Case G, 00 for 01 labelled 41 00, is one of document 01's.
pub record GapCases : Type 0 where
  -- 00 for 30 00 01, labelled 41 01: 01 is what 00 lacks, and its word is not the voice of 30 00 01
  pub part_spoken : Daily (λ day. acts_for (granting_part (0x00 ∷ []) (0x30 ∷ 0x00 ∷ 0x01 ∷ []) (0x41 ∷ 0x01 ∷ [])) (0x00 ∷ []) (0x01 ∷ []) (0x41 ∷ 0x01 ∷ []) day ≡ Yes)
  pub not_by_voice : spoken_by_voice 2 (held (conj (name 0) (name 1))) (held (project integrity (name 1))) ≡ false
  -- 00 for 40 01, labelled 41 00 and 41 01: the see side of 01 is what 00 lacks
  pub see_unspoken : Daily (λ day. acts_for (granting_part (0x00 ∷ []) (0x40 ∷ 0x01 ∷ []) (0x41 ∷ 0x00 ∷ [])) (0x00 ∷ []) (0x40 ∷ 0x01 ∷ []) (0x21 ∷ []) day ≡ No confidentiality 1)
  pub see_spoken : Daily (λ day. acts_for (granting_part (0x00 ∷ []) (0x40 ∷ 0x01 ∷ []) (0x41 ∷ 0x01 ∷ [])) (0x00 ∷ []) (0x40 ∷ 0x01 ∷ []) (0x41 ∷ 0x01 ∷ []) day ≡ Yes)
  -- 30 00 01 for 00, labelled 41 21: nothing is lacked
  pub nothing_lacked : spoken 2 (held (conj (name 0) (name 1))) (held (name 0)) (held (project integrity bottom)) ≡ true

-- Document 02, K5: the cases of the live ledger, of two names, under 41 01, on 15 November 2026. Assumes nothing: these are the statements.
use Rattle.std.specs.Prelude.{◌≡◌, ℕ, List, [], ◌∷◌}
use Rattle.model.specs.Sides.{Side, confidentiality}
use Rattle.model.specs.Readings.{Reading, accepted, refused, and_then}
use Rattle.model.specs.Answers.{Answer, Yes, No, Refused}
use Rattle.model.specs.Live.{Live, make, Call, add, withdraw, ask_acts_for, ask_flows_to, step, run}
use Rattle.requests.specs.Cases.{dated_block, grant_block_of}

-- what is asked of a new one after these calls
abbrev pub live_after : {A : Type 0} → List Call → (Live → A) → Reading A
live_after calls f = and_then (make 2 (0x41 ∷ 0x01 ∷ []) 20261115) (λ x. accepted (f (run calls x)))

abbrev pub number_after : List Call → Side → ℕ → Reading ℕ
number_after calls s c = live_after calls (λ x. x.numbers s c)

abbrev pub reply_after : List Call → Call → Reading Answer
reply_after calls call = live_after calls (λ x. (step call x).reply)

abbrev pub blocks_after : List Call → Reading (List (List ℕ))
blocks_after calls = live_after calls (λ x. x.blocks)

-- g: 00 for 01, labelled 41 01
abbrev pub add_g : Call
add_g = add (dated_block 0 0)

-- 00 for 30 00 01, labelled 41 01: spoken by the gap (K6)
abbrev pub add_part : Call
add_part = add (grant_block_of (0x00 ∷ []) (0x30 ∷ 0x00 ∷ 0x01 ∷ []) (0x41 ∷ 0x01 ∷ []))

-- does 00 act for 01, and flow to it
abbrev pub acts_q : Call
acts_q = ask_acts_for (0x00 ∷ []) (0x01 ∷ [])

abbrev pub flows_q : Call
flows_q = ask_flows_to (0x00 ∷ []) (0x01 ∷ [])

-- A, B and C: 00 for 01, 01 for 00, and 00 for 20, labelled 41 20
unfoldable pub block_a : List ℕ
block_a = grant_block_of (0x00 ∷ []) (0x01 ∷ []) (0x41 ∷ 0x20 ∷ [])

unfoldable pub block_b : List ℕ
block_b = grant_block_of (0x01 ∷ []) (0x00 ∷ []) (0x41 ∷ 0x20 ∷ [])

unfoldable pub block_c : List ℕ
block_c = grant_block_of (0x00 ∷ []) (0x20 ∷ []) (0x41 ∷ 0x20 ∷ [])

pub record LiveCases : Type 0 where
  -- nothing is granted yet
  pub new_number : (s : Side) → number_after [] s 1 ≡ accepted 0
  pub new_acts_for : reply_after [] acts_q ≡ accepted (No confidentiality 1)
  -- g is added
  pub one_number : (s : Side) → number_after (add_g ∷ []) s 1 ≡ accepted 1
  pub one_acts_for : reply_after (add_g ∷ []) acts_q ≡ accepted Yes
  pub one_flows_to : reply_after (add_g ∷ []) flows_q ≡ accepted (No confidentiality 2)
  -- or a grant of which it speaks only what 00 lacks
  pub part_number : (s : Side) → number_after (add_part ∷ []) s 1 ≡ accepted 1
  pub part_acts_for : reply_after (add_part ∷ []) acts_q ≡ accepted Yes
  -- its twin; then either is withdrawn; then the other
  pub two_number : (s : Side) → number_after (add_g ∷ add_g ∷ []) s 1 ≡ accepted 2
  pub twin_number : (s : Side) → number_after (add_g ∷ add_g ∷ withdraw 0 ∷ []) s 1 ≡ accepted 1
  pub twin_acts_for : reply_after (add_g ∷ add_g ∷ withdraw 0 ∷ []) acts_q ≡ accepted Yes
  pub none_acts_for : reply_after (add_g ∷ add_g ∷ withdraw 0 ∷ withdraw 0 ∷ []) acts_q ≡ accepted (No confidentiality 1)
  pub none_withdraw : reply_after (add_g ∷ add_g ∷ withdraw 0 ∷ withdraw 0 ∷ []) (withdraw 0) ≡ accepted (Refused 88)
  -- the day comes before n, and n before the label
  pub bad_day : make 13 [] 20260229 ≡ refused 86
  pub bad_names : make 13 [] 20260228 ≡ refused 7
  pub no_label : make 2 [] 20261115 ≡ refused 41
  pub bad_label : make 2 (0x02 ∷ []) 20261115 ≡ refused 42
  -- A, B and C: without A, B stands at 0 and C at 1, and nothing at 2
  pub moved_down : blocks_after (add block_a ∷ add block_b ∷ add block_c ∷ withdraw 0 ∷ []) ≡ accepted (block_b ∷ block_c ∷ [])
  pub none_at_2 : reply_after (add block_a ∷ add block_b ∷ add block_c ∷ withdraw 0 ∷ []) (withdraw 2) ≡ accepted (Refused 88)

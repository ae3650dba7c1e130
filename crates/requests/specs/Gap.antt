-- Document 02, K6: only the missing part must be spoken. `demands` and `algebra` have what counting in this sense means. Assumes nothing: these are the statements.
use Rattle.std.specs.Prelude.{◌≡◌, ◌↔◌, ℕ, ◌^◌, ◌<◌, Bool, true, false, not, List}
use Rattle.model.specs.Sides.{Side, integrity}
use Rattle.model.specs.Readings.{accepted}
use Rattle.model.specs.Coalitions.{Marks}
use Rattle.model.specs.Terms.{Term, held}
use Rattle.model.specs.Dates.{real_date}
use Rattle.model.specs.Grants.{Grant, Under, read_under, acts_statically, spoken, counts_under, of_grant, chosen, sound_of}
use Rattle.model.specs.Ledgers.{Ledger, read_ledger, without}
use Rattle.model.specs.Answers.{Yes}
use Rattle.model.specs.Questions.{across, sound_under, acts_for, flows_to}
use Rattle.model.specs.Meanings.{Holds}
use Rattle.model.specs.Voice.{spoken_by_voice, counted_by_voice}
use Rattle.demands.specs.Answers.{Asked}
use Rattle.demands.specs.Extracts.{SameRights}

-- Single coalitions tell: a grant is spoken exactly if none that holds its label on the change side holds p and not q on a side.
abbrev pub SingleCoalitionsTell : Type 0
SingleCoalitionsTell = (n : ℕ) (p q d : Term)
    → spoken n (held p) (held q) (held d) ≡ true ↔ ((s : Side) (c : ℕ) → c < 2 ^ n → held d integrity c ≡ true → held p s c ≡ true → held q s c ≡ true)

-- What the voice of q spoke, the gap of any p and q speaks, so that no grant stops counting.
pub record VoiceStillSpeaks : Type 0 where
  pub speaks : (n : ℕ) (p q d : Term) → spoken_by_voice n (held q) (held d) ≡ true → spoken n (held p) (held q) (held d) ≡ true
  pub counts : (u : Under) (g : Grant) → counted_by_voice u g ≡ true → counts_under u g ≡ true

-- the coalitions that keep the grants that counted by the voice
abbrev pub sound_by_voice : Ledger → Under → Marks
sound_by_voice l u = sound_of (chosen (counted_by_voice u) l.grants)

-- A coalition that is sound was sound, and each yes stays.
pub record YesStays : Type 0 where
  pub was_sound : (l : Ledger) (u : Under) (s : Side) (c : ℕ) → sound_under l u s c ≡ true → sound_by_voice l u s c ≡ true
  pub by_acts_for : (ledger p q label : List ℕ) (day : ℕ) (l : Ledger) (u : Under) (tp tq : Term) → Asked ledger p q label day l u tp tq
      → ((s : Side) → Holds l.names (sound_by_voice l u) (held tp) (held tq) s) → acts_for ledger p q label day ≡ Yes
  pub by_flows_to : (ledger p q label : List ℕ) (day : ℕ) (l : Ledger) (u : Under) (tp tq : Term) → Asked ledger p q label day l u tp tq
      → ((s : Side) → Holds l.names (sound_by_voice l u) (across tq tp) (across tp tq) s) → flows_to ledger p q label day ≡ Yes

-- Where p statically acts for q any label speaks, and to leave such grants out changes nothing.
pub record StaticGrants : Type 0 where
  pub any_label_speaks : (n : ℕ) (p q : Term) (d : Marks) → acts_statically n p q ≡ true → spoken n (held p) (held q) d ≡ true
  pub change_nothing : (a label : List ℕ) (day : ℕ) (l : Ledger) (u : Under) (out : ℕ → Bool)
      → real_date day ≡ true → read_ledger a ≡ accepted l → read_under l.names label day ≡ accepted u
      → ((k : ℕ) → out k ≡ true → of_grant (λ g. not (acts_statically l.names g.p g.q)) l.grants k ≡ false)
      → SameRights a (without out a) label day

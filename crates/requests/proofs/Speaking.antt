-- What the gap speaks (document 02, K6): what the voice spoke too, so that each yes stays; and whatever p statically acts for. Assumes nothing.
use mathlib.Core.Path.{◌≡◌, refl, sym, ap, ◌∙◌}
use mathlib.Core.Bool.{Bool, true, false, not, ◌&&◌, and-false}
use mathlib.Core.List.{List, [], ◌∷◌}
use Prim.Native.Nat.{ℕ, zero, suc, ◌^◌, ◌<◌}
use Rattle.model.specs.Sides.{Side, integrity}
use Rattle.model.specs.Readings.{accepted}
use Rattle.model.specs.Coalitions.{Marks}
use Rattle.model.specs.Terms.{Term, held}
use Rattle.model.specs.Dates.{real_date}
use Rattle.model.specs.Grants.{Grant, Under, read_under, acts_statically, spoken, counts_under, of_grant, chosen, sound_of}
use Rattle.model.specs.Ledgers.{Ledger, read_ledger, leave_out, without}
use Rattle.model.specs.Questions.{across, sound_under}
use Rattle.model.specs.Meanings.{Holds}
use Rattle.model.specs.Voice.{counted_by_voice}
use Rattle.model.proofs.Truth.{bool_ext, and_intro, and_left}
use Rattle.model.proofs.Monotone.{held_monotone}
use Rattle.model.proofs.Gap.{spoken_says, spoken_singly, voice_spoken, voice_counts}
use Rattle.model.proofs.Sound.{static_says, sound_says}
use Rattle.model.proofs.Without.{leave_chosen}
use Rattle.demands.specs.Extracts.{SameRights}
use Rattle.demands.proofs.Asking.{acts_for_exact, flows_to_exact}
use Rattle.demands.proofs.Comparing.{without_rights}
use Rattle.requests.specs.Gap.{SingleCoalitionsTell, VoiceStillSpeaks, sound_by_voice, YesStays, StaticGrants}

pub single_coalitions_tell : SingleCoalitionsTell
single_coalitions_tell n p q d = spoken_singly n (held p) (held q) (held d) (held_monotone n d integrity)

pub voice_still_speaks : VoiceStillSpeaks
voice_still_speaks = record {
  speaks = λ n p q d. voice_spoken n (held p) (held q) (held d) (held_monotone n q);
  counts = voice_counts;
}

-- more grants count, and fewer coalitions keep them
was_sound : (l : Ledger) (u : Under) (s : Side) (c : ℕ) → sound_under l u s c ≡ true → sound_by_voice l u s c ≡ true
unfolding sound_under
was_sound l u s c e = (sound_says (counted_by_voice u) l.grants s c).1 (λ g m k. (sound_says (counts_under u) l.grants s c).0 e g m (voice_counts u g k))

still_holds : (l : Ledger) (u : Under) (p q : Marks) → ((s : Side) → Holds l.names (sound_by_voice l u) p q s) → (s : Side) → Holds l.names (sound_under l u) p q s
still_holds l u p q h s c b good = h s c b (was_sound l u s c good)

pub yes_stays : YesStays
yes_stays = record {
  was_sound = was_sound;
  by_acts_for = λ ledger p q label day l u tp tq a h. (acts_for_exact ledger p q label day l u tp tq a).yes_exactly.1 (still_holds l u (held tp) (held tq) h);
  by_flows_to = λ ledger p q label day l u tp tq a h. (flows_to_exact ledger p q label day l u tp tq a).yes_exactly.1 (still_holds l u (across tq tp) (across tp tq) h);
}

-- ---- grants whose p statically acts for their q

any_label_speaks : (n : ℕ) (p q : Term) (d : Marks) → acts_statically n p q ≡ true → spoken n (held p) (held q) d ≡ true
any_label_speaks n p q d e = (spoken_says n (held p) (held q) d).1 (λ s c l k b m sub h. (static_says n p q).0 e s b m h)

module _ (u : Under) (n : ℕ) where
  -- it counts, and p does not statically act for q
  abbrev needed : Grant → Bool
  needed g = counts_under u g && not (acts_statically n g.p g.q)

  -- what keeps the needed grants keeps all that count
  needed_sound : (gs : List Grant) (s : Side) (c : ℕ) → c < 2 ^ n → sound_of (chosen needed gs) s c ≡ sound_of (chosen (counts_under u) gs) s c
  needed_sound gs s c l = bool_ext (sound_of (chosen needed gs) s c) (sound_of (chosen (counts_under u) gs) s c)
      (λ e. (sound_says (counts_under u) gs s c).1 (λ g m k h. by g (acts_statically n g.p g.q) refl k h (λ x. (sound_says needed gs s c).0 e g m x h)))
      (λ e. (sound_says needed gs s c).1 (λ g m k. (sound_says (counts_under u) gs s c).0 e g m (and_left (counts_under u g) (not (acts_statically n g.p g.q)) k)))
    where
      by : (g : Grant) (b : Bool) → acts_statically n g.p g.q ≡ b → counts_under u g ≡ true → held g.p s c ≡ true → (needed g ≡ true → held g.q s c ≡ true) → held g.q s c ≡ true
      by g true e k h f = (static_says n g.p g.q).0 e s c l h
      by g false e k h f = f (and_intro k (ap not e))

  -- and of the grants that are left out none is needed
  none_needed : (out : ℕ → Bool) (gs : List Grant) → ((k : ℕ) → out k ≡ true → of_grant (λ g. not (acts_statically n g.p g.q)) gs k ≡ false) → (k : ℕ) → out k ≡ true → of_grant needed gs k ≡ false
  unfolding of_grant
  none_needed out gs h k o = by gs k (h k o)
    where
      by : (gs : List Grant) (k : ℕ) → of_grant (λ g. not (acts_statically n g.p g.q)) gs k ≡ false → of_grant needed gs k ≡ false
      by [] k e = refl
      by (g ∷ gs) zero e = ap (λ (b : Bool). counts_under u g && b) e ∙ and-false (counts_under u g)
      by (g ∷ gs) (suc k) e = by gs k e

static_change_nothing : (a label : List ℕ) (day : ℕ) (l : Ledger) (u : Under) (out : ℕ → Bool)
    → real_date day ≡ true → read_ledger a ≡ accepted l → read_under l.names label day ≡ accepted u
    → ((k : ℕ) → out k ≡ true → of_grant (λ g. not (acts_statically l.names g.p g.q)) l.grants k ≡ false)
    → SameRights a (without out a) label day
unfolding sound_under
static_change_nothing a label day l u out real e k h =
    without_rights a label day l u out real e k (λ s c m.
    sym (needed_sound u l.names l.grants s c m)
    ∙ ap (λ (gs : List Grant). sound_of gs s c) (sym (leave_chosen (needed u l.names) out l.grants (none_needed u l.names out l.grants h)))
    ∙ needed_sound u l.names (leave_out out 0 l.grants) s c m)

pub static_grants : StaticGrants
static_grants = record { any_label_speaks = any_label_speaks; change_nothing = static_change_nothing }

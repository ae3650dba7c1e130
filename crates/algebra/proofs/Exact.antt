-- The algebra is exactly what the coalitions say: acts-for, flows-to, which grants count, and the answers yes.
use mathlib.Core.Path.{◌≡◌, refl, sym, ap₂, ◌∙◌}
use mathlib.Core.Logic.Iff
use mathlib.Core.Logic.{◌↔◌}
use mathlib.Core.Bool.{true, ◌&&◌}
use mathlib.Core.List.Memᴰ
use mathlib.Core.List.{List, []}
use Prim.Native.Nat.{ℕ, ◌^◌, ◌<◌}
use Rattle.model.specs.Sides.{Side, confidentiality, integrity}
use Rattle.model.specs.Coalitions.{Marks, within}
use Rattle.model.specs.Terms.{Term, NamesBelow, held}
use Rattle.model.specs.Grants.{Under, counts_under, Grant, visible, counting, sound}
use Rattle.model.specs.Ledgers.{Ledger}
use Rattle.model.specs.Answers.{Yes}
use Rattle.model.specs.Questions.{sound_under, flows_to_under, acts_for, flows_to}
use Rattle.model.specs.Meanings.{Agree}
use Rattle.model.specs.Voice.{voice, spoken_by_voice}
use Rattle.model.proofs.Truth.{and_intro, and_left, and_right}
use Rattle.model.proofs.Search.{within_says}
use Rattle.model.proofs.Judge.{flows_yes}
use Rattle.model.proofs.Reading.{accepted_codes}
use Rattle.model.proofs.Sound.{static_says, chosen_elim}
use Rattle.model.proofs.Accepted.{ledger_below}
use Rattle.demands.specs.Answers.{Asked}
use Rattle.algebra.specs.Principals.{Principal, conj, project, held_by, Named}
use Rattle.algebra.specs.Meaning.{meaning}
use Rattle.algebra.specs.Algebra.{ActsFor, FlowsTo, GrantsBelow, Carries, voice_of, ActsForByCoalitions, FlowsToByCoalitions, StaticIsActsFor, VisibleIsFlowsTo, SpokenByVoiceIsActsForVoice, YesIsActsFor, YesIsFlowsTo}
use Rattle.demands.proofs.Asking.{asked_answer, acts_for_exact}
use Rattle.algebra.proofs.Meanings.{meaning_held, meaning_marks, meaning_named}
use Rattle.algebra.proofs.Soundness.{soundness}
use Rattle.algebra.proofs.Completeness.{completeness}
use Rattle.algebra.proofs.Sides.{side_names, voice-held}

pub by_acts_for : ActsForByCoalitions
by_acts_for n G p q fit pn qn = (soundness n G, completeness n G p q fit pn qn)

-- flows-to is acts-for across the sides
crossing : (n : ℕ) (G : List Grant) (p q : Principal)
    → ((s : Side) → Carries n G s (held_by (conj (project confidentiality q) (project integrity p))) (held_by (conj (project confidentiality p) (project integrity q))))
    ↔ (Carries n G confidentiality (held_by q) (held_by p) × Carries n G integrity (held_by p) (held_by q))
unfolding held_by
crossing n G p q = (there, back)
  where
    there : ((s : Side) → Carries n G s (held_by (conj (project confidentiality q) (project integrity p))) (held_by (conj (project confidentiality p) (project integrity q))))
        → Carries n G confidentiality (held_by q) (held_by p) × Carries n G integrity (held_by p) (held_by q)
    there f = (λ c l good h. and_left (held_by p confidentiality c) true (f confidentiality c l good (and_intro h refl)), λ c l good h. f integrity c l good h)

    back : Carries n G confidentiality (held_by q) (held_by p) × Carries n G integrity (held_by p) (held_by q)
        → (s : Side) → Carries n G s (held_by (conj (project confidentiality q) (project integrity p))) (held_by (conj (project confidentiality p) (project integrity q)))
    back f confidentiality c l good h = and_intro (f.0 c l good (and_left (held_by q confidentiality c) true h)) refl
    back f integrity c l good h = f.1 c l good h

pub by_flows_to : FlowsToByCoalitions
unfolding Named
by_flows_to n G p q fit pn qn =
    Iff.trans
    (by_acts_for n G (conj (project confidentiality q) (project integrity p)) (conj (project confidentiality p) (project integrity q)) fit (qn, pn) (pn, qn))
    (crossing n G p q)

-- both of terms, by what they mean
pub acts_for_terms : (n : ℕ) (G : List Grant) (p q : Term) → GrantsBelow n G → NamesBelow n p → NamesBelow n q
    → ActsFor G (meaning p) (meaning q) ↔ ((s : Side) → Carries n G s (held p) (held q))
acts_for_terms n G p q fit pn qn =
    rw (meaning_marks p, meaning_marks q) at (by_acts_for n G (meaning p) (meaning q) fit (meaning_named n p pn) (meaning_named n q qn))

flows_to_terms : (n : ℕ) (G : List Grant) (p q : Term) → GrantsBelow n G → NamesBelow n p → NamesBelow n q
    → FlowsTo G (meaning p) (meaning q) ↔ (Carries n G confidentiality (held q) (held p) × Carries n G integrity (held p) (held q))
flows_to_terms n G p q fit pn qn =
    rw (meaning_marks p, meaning_marks q) at (by_flows_to n G (meaning p) (meaning q) fit (meaning_named n p pn) (meaning_named n q qn))

-- without grants
pub none_below : (n : ℕ) → GrantsBelow n []
none_below n g m = absurd (Memᴰ.not-nil m)

within_carries : (n : ℕ) (s : Side) (p q : Marks) → (within n (p s) (q s) ≡ true) ↔ Carries n [] s p q
unfolding sound
within_carries n s p q = (λ e c l good. (within_says n (p s) (q s)).0 e c l, λ f. (within_says n (p s) (q s)).1 (λ c l. f c l refl))

-- on each side every coalition of n names that is one of p is one of q
abbrev pub Everywhere : ℕ → Marks → Marks → Type 0
Everywhere n p q = (s : Side) (c : ℕ) → c < 2 ^ n → p s c ≡ true → q s c ≡ true

pub statically : (n : ℕ) (p q : Principal) → Named n p → Named n q → ActsFor [] p q ↔ Everywhere n (held_by p) (held_by q)
unfolding sound
statically n p q pn qn = Iff.trans (by_acts_for n [] p q (none_below n) pn qn) (λ f s c l. f s c l refl, λ f s c l good. f s c l)

pub static_acts : StaticIsActsFor
static_acts n p q pn qn =
    Iff.trans (static_says n p q)
    (Iff.symm (rw (meaning_marks p, meaning_marks q) at (statically n (meaning p) (meaning q) (meaning_named n p pn) (meaning_named n q qn))))

pub visible_flows : VisibleIsFlowsTo
unfolding visible
visible_flows n L d Ln dn = Iff.trans (there, back) (Iff.symm (flows_to_terms n [] d L (none_below n) dn Ln))
  where
    there : visible n (held L) (held d) ≡ true → Carries n [] confidentiality (held L) (held d) × Carries n [] integrity (held d) (held L)
    there e = (
      (within_carries n confidentiality (held L) (held d)).0 (and_left (within n (held L confidentiality) (held d confidentiality)) (within n (held d integrity) (held L integrity)) e),
      (within_carries n integrity (held d) (held L)).0 (and_right (within n (held L confidentiality) (held d confidentiality)) (within n (held d integrity) (held L integrity)) e),
    )

    back : Carries n [] confidentiality (held L) (held d) × Carries n [] integrity (held d) (held L) → visible n (held L) (held d) ≡ true
    back f = and_intro ((within_carries n confidentiality (held L) (held d)).1 f.0) ((within_carries n integrity (held d) (held L)).1 f.1)

pub voice_named : (n : ℕ) (q : Principal) → Named n q → Named n (voice_of q)
unfolding voice_of Named
voice_named n q qn = (side_names n confidentiality q qn, side_names n integrity q qn)

-- Of a principal that is held where V is: to be spoken by V's voice is to act for the principal's. On the change side the two say the same, and on the
-- see side there is nothing to show.
pub voice_spoken : (n : ℕ) (V : Marks) (q d : Principal) → Agree n (held_by q) V → Named n q → Named n d
    → (spoken_by_voice n V (held_by d) ≡ true) ↔ ActsFor [] (project integrity d) (voice_of q)
unfolding spoken_by_voice held_by voice Named
voice_spoken n V q d same qn dn = Iff.trans (there, back) (Iff.symm (statically n (project integrity d) (voice_of q) dn (voice_named n q qn)))
  where
    agree : (c : ℕ) → c < 2 ^ n → held_by (voice_of q) integrity c ≡ voice V integrity c
    agree c l = voice-held integrity q c ∙ ap₂ ◌&&◌ (same confidentiality c l) (same integrity c l)

    there : spoken_by_voice n V (held_by d) ≡ true → Everywhere n (held_by (project integrity d)) (held_by (voice_of q))
    there e confidentiality c l h = voice-held confidentiality q c
    there e integrity c l h = agree c l ∙ (within_says n (held_by d integrity) (voice V integrity)).0 e c l h

    back : Everywhere n (held_by (project integrity d)) (held_by (voice_of q)) → spoken_by_voice n V (held_by d) ≡ true
    back f = (within_says n (held_by d integrity) (voice V integrity)).1 (λ c l h. sym (agree c l) ∙ f integrity c l h)

pub spoken-voice : SpokenByVoiceIsActsForVoice
spoken-voice n q d qn dn =
    rw (meaning_marks d) at (voice_spoken n (held q) (meaning q) (meaning d) (λ s c l. meaning_held q s c) (meaning_named n q qn) (meaning_named n d dn))

-- the grants that count are among the grants
pub counting_below : (n : ℕ) (u : Under) (gs : List Grant) → GrantsBelow n gs → GrantsBelow n (counting u gs)
counting_below n u gs fit g m = fit g (chosen_elim (counts_under u) gs g m).0

-- of a question's accepted inputs, every name is below n
pub record NamesFit (l : Ledger) (u : Under) (p q : Term) : Type 0 where
  pub grants_fit : GrantsBelow l.names (counting u l.grants)
  pub p_fits : NamesBelow l.names p
  pub q_fits : NamesBelow l.names q

pub names_fit : (ledger p q label : List ℕ) (day : ℕ) (l : Ledger) (u : Under) (tp tq : Term) → Asked ledger p q label day l u tp tq → NamesFit l u tp tq
names_fit ledger p q label day l u tp tq a = record {
  grants_fit = counting_below l.names u l.grants (λ g m. let b = ledger_below ledger l a.ledger_is g m in (b.p_below, b.q_below));
  p_fits = ((accepted_codes l.names p tp).0 a.p_is).1;
  q_fits = ((accepted_codes l.names q tq).0 a.q_is).1;
}

pub yes_carries : (ledger p q label : List ℕ) (day : ℕ) (l : Ledger) (u : Under) (tp tq : Term) → Asked ledger p q label day l u tp tq
    → (acts_for ledger p q label day ≡ Yes) ↔ ((s : Side) → Carries l.names (counting u l.grants) s (held tp) (held tq))
unfolding sound_under
yes_carries ledger p q label day l u tp tq a = (acts_for_exact ledger p q label day l u tp tq a).yes_exactly

pub yes_acts : YesIsActsFor
yes_acts ledger p q label day l u tp tq a =
    let f = names_fit ledger p q label day l u tp tq a in
    Iff.trans (yes_carries ledger p q label day l u tp tq a)
    (Iff.symm (acts_for_terms l.names (counting u l.grants) tp tq f.grants_fit f.p_fits f.q_fits))

pub yes_flows : YesIsFlowsTo
unfolding flows_to sound_under
yes_flows ledger p q label day l u tp tq a =
    let f = names_fit ledger p q label day l u tp tq a in
    rw (asked_answer flows_to_under ledger p q label day l u tp tq a)
    (Iff.trans (flows_yes l u tp tq)
    (Iff.symm (flows_to_terms l.names (counting u l.grants) tp tq f.grants_fit f.p_fits f.q_fits)))

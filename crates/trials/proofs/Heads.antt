-- What C keeps of a live ledger: its head put into numbers and taken out again. Assumes nothing.
use mathlib.Core.Path.{◌≡◌, refl, sym, ap, ◌∙◌, subst}
use mathlib.Core.List.{List, [], ◌∷◌}
use Prim.Native.Nat.{ℕ, ◌+◌, ◌%◌, ◌<◌}
use native.Mathlib.Nat.{mod-eq_of_lt}
use native.Mathlib.Omega.{arith}
use lib.ListN.{drop}
use Rattle.std.specs.Prelude.{Result, Ok, Err}
use Rattle.model.specs.Readings.{accepted, refused}
use Rattle.model.specs.Answers.{number}
use Rattle.model.specs.Live as model
use Rattle.model.specs.Live.{make, Call, step}
use Rattle.model.proofs.Dates.{real_most}
use Rattle.live.specs.declared.Live.{Live}
use Rattle.refusals.specs.declared.Refusal.{Refusal}
use Rattle.live.specs.Held.{Holds, Stepped, Unaltered, Made}
use Rattle.trials.specs.Heads.{head_of, Replied, LentStepped, LentUnaltered}

pub head_put : (live : Live) → live.names < 256 → live.day < 4294967296 → head_of (live.names ∷ live.day ∷ live.held ∷ live.codes ∷ []) live.label ≡ live
head_put live a b =
    let names : live.names % 256 ≡ live.names = mod-eq_of_lt a in
    let day : live.day % 4294967296 ≡ live.day = mod-eq_of_lt b in
    rw (names, day)

pub head_told : (a live : Live) → ◌≡◌ {A = Result Live Refusal} (Ok a) (Ok live) → live.names < 256 → live.day < 4294967296 → head_of (a.names ∷ a.day ∷ a.held ∷ a.codes ∷ []) a.label ≡ live
head_told a live e small early = let k : a ≡ live = cc in rw k (head_put live small early)

-- what is held has a head that comes back out of the numbers
back : (head text : List ℕ) (live : Live) (r : ℕ) (head' text' ledger planes : List ℕ) (x : model.Live) → Replied head text (Ok live) r head' text'
    → Holds live ledger planes x → Holds (head_of head' text') ledger planes x
back head text live r head' text' ledger planes x k h =
    subst (λ (l : Live). Holds l ledger planes x)
    (sym (k.done live refl (omega (arith, h.names, h.kept.names)) (omega (arith, h.day, real_most x.asked.day h.good.day_real))))
    h

pub lent_stepped : (call : Call) (x : model.Live) (head text ledger planes : List ℕ) (reply : Result Live Refusal) (r : ℕ) (head' text' ledger' planes' : List ℕ)
    → Stepped call x (head_of head text) ledger reply ledger' planes' → Replied head text reply r head' text' → LentStepped call x ledger r head' text' ledger' planes'
lent_stepped call x head text ledger planes (Ok live) r head' text' ledger' planes' s k = record {
  number_is = k.number_is ∙ ap number s.reply_is;
  next_held = back head text live r head' text' ledger' planes' (step call x).next k s.next_held;
  later = s.later;
}
lent_stepped call x head text ledger planes (Err why) r head' text' ledger' planes' s k =
    let same = k.refused why refl in
    record { number_is = k.number_is ∙ ap number s.reply_is; next_held = rw (same.0, same.1) s.next_held; later = s.later }

-- a refusal's number, and nothing is altered
pub lent_unaltered : (head text ledger planes : List ℕ) (reply : Result Live Refusal) (r : ℕ) (head' text' ledger' planes' : List ℕ)
    → ((why : Refusal) → reply ≡ Err why → Unaltered ledger planes ledger' planes')
    → Replied head text reply r head' text' → (j : ℕ) → r ≡ 131072 + j → LentUnaltered head text ledger planes head' text' ledger' planes'
unfolding number
lent_unaltered head text ledger planes (Ok live) r head' text' ledger' planes' u k j e = absurd (let z : r ≡ 0 = k.number_is in omega arith)
lent_unaltered head text ledger planes (Err why) r head' text' ledger' planes' u k j e =
    let same = k.refused why refl in
    let rest = u why refl in
    record { same_head = same.0; same_text = same.1; same_ledger = rest.same_ledger; same_numbers = rest.same_planes }

module _ (n : ℕ) (label : List ℕ) (day : ℕ) (head text ledger planes : List ℕ) (reply : Result Live Refusal) (r : ℕ) (head' text' ledger' planes' : List ℕ)
    (m : Made n label day ledger reply ledger' planes') (k : Replied head text reply r head' text') where
  pub lent_made : (x : model.Live) → make n label day ≡ accepted x → (r ≡ 0) × Holds (head_of head' text') ledger' planes' x × (drop 512 ledger' ≡ drop 512 ledger)
  unfolding number
  lent_made x e =
      let made = m.made x e in
      (k.number_is ∙ rw made.1, back head text made.0 r head' text' ledger' planes' x (rw made.1 at k) made.2, made.3)

  pub lent_refused : ((why : Refusal) → reply ≡ Err why → Unaltered ledger planes ledger' planes') → (j : ℕ) → make n label day ≡ refused j
      → (r ≡ 131072 + j) × LentUnaltered head text ledger planes head' text' ledger' planes'
  unfolding number
  lent_refused u j e =
      let is : r ≡ 131072 + j = k.number_is ∙ ap number (m.not_made j e) in
      (is, lent_unaltered head text ledger planes reply r head' text' ledger' planes' u k j is)

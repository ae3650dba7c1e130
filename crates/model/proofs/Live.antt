-- The live ledger: what its calls keep true, their refusals in their order, and that its answers are the written ledger's. Assumes nothing.
use mathlib.Core.Path.{◌≡◌, refl, sym, ap, ◌∙◌}
use mathlib.Core.Logic.{◌↔◌, ⊎_elim}
use Prim.Native.Nat.{ℕ, zero, suc, ◌+◌, ◌-◌, ◌≤◌, ◌<◌}
use mathlib.Core.Bool.{Bool, true, false, cond, not, ◌&&◌}
use mathlib.Core.List.{List, [], ◌∷◌, ◌++◌}
use native.Mathlib.Nat.{zero-add}
use native.Mathlib.Omega.{arith}
use lib.Dec.{eqb, ltb}
use lib.ListN.{length, take, drop, get_or, length-append, length-take, length-drop}
use borrow.Author.Tests.{eqb-true, eq-eqb, ltb-true, ltb-false, ne_eqb, le-ltb}
use Rattle.model.specs.Sides.{Side}
use Rattle.model.specs.Readings.{Reading, accepted, refused, and_then, from, require}
use Rattle.model.specs.Coalitions.{implies, bit}
use Rattle.model.specs.Terms.{Term, job_size, read_term, held}
use Rattle.model.specs.Dates.{real_date}
use Rattle.model.specs.Grants.{Grant, Under, under, read_under, marks_of, breaks, sound, counts_under, chosen, counting, sound_of}
use Rattle.model.specs.Ledgers.{checked, all_checked, read_grant, read_block, read_grants, Ledger, read_ledger}
use Rattle.model.specs.Answers.{Answer, Refused, given}
use Rattle.model.specs.Questions.{Verdict, holds, refuted, answer_to, judge, across, sound_under, acts_for_under, flows_to_under, ask, acts_for, flows_to}
use Rattle.model.specs.Live.{Live, broken_count, afresh, make, breaks_counting, grown, added, dropped_at, grant_at, withdrawn, sound_by, acts_for_live, flows_to_live, ask_live, Call, add, withdraw, ask_acts_for, ask_flows_to, altered, step, run, written, Holding, none, some, Good}
use Rattle.model.specs.Meanings.{MakeRefused, bad_day, bad_names, bad_label, BlockRefused, bad_size, bad_check, bad_grant, AddRefused, bad_block, no_room, AskRefused, bad_p, bad_q}
use Rattle.model.proofs.Truth.{lt_or_ge, clash, and_intro}
use Rattle.model.proofs.Packed.{bit_lt}
use Rattle.model.proofs.Judge.{judge_cong}
use Rattle.model.proofs.Accepted.{accepted_same, require_accepted, then_accepted, from_accepted, job_true}
use Rattle.model.proofs.Without.{Blocks, none as no_blocks, some as one_block, made_accepted}

-- ---- the blocks held

pub record BlockRead (n : ℕ) (b : List ℕ) (g : Grant) : Type 0 where
  pub size : length b ≡ 512
  pub check : checked b ≡ true
  pub grant : read_grant n b ≡ accepted g

pub block_read : (n : ℕ) (b : List ℕ) (g : Grant) → read_block n b ≡ accepted g → BlockRead n b g
unfolding read_block
block_read n b g e =
    let x = require_accepted (eqb (length b) 512) 10 (require (checked b) 11 (read_grant n b)) g e in
    let y = require_accepted (checked b) 11 (read_grant n b) g x.1 in
    record { size = eqb-true (length b) 512 x.0; check = y.0; grant = y.1 }

module _ {n : ℕ} where
  pub holding_append : {bs cs : List (List ℕ)} {gs hs : List Grant} → Holding n bs gs → Holding n cs hs → Holding n (bs ++ cs) (gs ++ hs)
  holding_append none k = k
  holding_append (some e h) k = some e (holding_append h k)

  pub holding_take : (k : ℕ) {bs : List (List ℕ)} {gs : List Grant} → Holding n bs gs → Holding n (take k bs) (take k gs)
  holding_take zero h = none
  holding_take (suc k) none = none
  holding_take (suc k) (some e h) = some e (holding_take k h)

  pub holding_drop : (k : ℕ) {bs : List (List ℕ)} {gs : List Grant} → Holding n bs gs → Holding n (drop k bs) (drop k gs)
  holding_drop zero h = h
  holding_drop (suc k) none = none
  holding_drop (suc k) (some e h) = holding_drop k h

  pub holding_length : {bs : List (List ℕ)} {gs : List Grant} → Holding n bs gs → length bs ≡ length gs
  holding_length none = refl
  holding_length (some e h) = ap suc (holding_length h)

  pub holding_at : {bs : List (List ℕ)} {gs : List Grant} → Holding n bs gs → (k : ℕ) (g : Grant) → grant_at gs k ≡ accepted g → read_block n (get_or bs k []) ≡ accepted g
  unfolding grant_at
  holding_at none k g e = absurd (let z : ◌≡◌ {A = ℕ} 0 1 = cc in omega arith)
  holding_at (some r h) zero g e = r ∙ e
  holding_at (some r h) (suc k) g e = holding_at h k g e

  pub holding_blocks : {bs : List (List ℕ)} {gs : List Grant} → Holding n bs gs → Blocks bs
  holding_blocks none = no_blocks
  holding_blocks (some {b} {g} e h) = one_block (block_read n b g e).size (holding_blocks h)

  pub holding_checked : {bs : List (List ℕ)} {gs : List Grant} → Holding n bs gs → all_checked bs ≡ true
  unfolding all_checked
  holding_checked none = refl
  holding_checked (some {b} {g} e h) = and_intro (block_read n b g e).check (holding_checked h)

  pub holding_reads : {bs : List (List ℕ)} {gs : List Grant} → Holding n bs gs → read_grants n bs ≡ accepted gs
  unfolding read_grants
  holding_reads none = refl
  holding_reads (some {b} {g} e h) = rw ((block_read n b g e).grant, holding_reads h)

-- the written ledger with the same grants is accepted, with those grants
pub written_read : (x : Live) → Good x → read_ledger (written x) ≡ accepted (record { names = x.asked.names; grants = x.grants })
written_read x h =
    let b = h.blocks_read in
    let fit = job_true x.asked.names h.names_fit in
    made_accepted x.asked.names x.blocks (holding_blocks b) x.grants fit.0 fit.1 h.few (holding_checked b) (holding_reads b)

-- ---- the grant at a place

pub record GrantThere (gs : List Grant) (k : ℕ) : Type 0 where
  pub grant : Grant
  pub is : grant_at gs k ≡ accepted grant

pub grant_there : (gs : List Grant) (k : ℕ) → k < length gs → GrantThere gs k
unfolding grant_at
grant_there [] k l = absurd (omega arith)
grant_there (g ∷ gs) zero l = record { grant = g; is = refl }
grant_there (g ∷ gs) (suc k) l = let t = grant_there gs k (omega arith) in record { grant = t.grant; is = t.is }

pub grant_none : (gs : List Grant) (k : ℕ) → length gs ≤ k → grant_at gs k ≡ refused 88
unfolding grant_at
grant_none [] k l = refl
grant_none (g ∷ gs) zero l = absurd (omega arith)
grant_none (g ∷ gs) (suc k) l = grant_none gs k (omega arith)

pub grant_below : (gs : List Grant) (k : ℕ) (g : Grant) → grant_at gs k ≡ accepted g → k < length gs
unfolding grant_at
grant_below [] k g e = absurd (let z : ◌≡◌ {A = ℕ} 0 1 = cc in omega arith)
grant_below (h ∷ gs) zero g e = omega arith
grant_below (h ∷ gs) (suc k) g e = omega (arith, grant_below gs k g e)

pub grant_get_or : (gs : List Grant) (k : ℕ) (g d : Grant) → grant_at gs k ≡ accepted g → get_or gs k d ≡ g
unfolding grant_at
grant_get_or [] k g d e = absurd (let z : ◌≡◌ {A = ℕ} 0 1 = cc in omega arith)
grant_get_or (h ∷ gs) zero g d e = accepted_same e
grant_get_or (h ∷ gs) (suc k) g d e = grant_get_or gs k g d e

-- withdrawing: the earlier ones stay where they are, the later ones move down
module _ {A : Type 0} (d : A) where
  pub drop-before : (l : List A) (k j : ℕ) → j < k → get_or (dropped_at k l) j d ≡ get_or l j d
  drop-before [] k j h = ap (λ (m : List A). get_or m j d) (nothing k)
    where
      nothing : (k : ℕ) → dropped_at {A = A} k [] ≡ []
      nothing zero = refl
      nothing (suc k) = refl
  drop-before (x ∷ l) zero j h = absurd (omega arith)
  drop-before (x ∷ l) (suc k) zero h = refl
  drop-before (x ∷ l) (suc k) (suc j) h = drop-before l k j (omega arith)

  pub drop_after : (l : List A) (k j : ℕ) → k ≤ j → get_or (dropped_at k l) j d ≡ get_or l (suc j) d
  drop_after [] zero j h = refl
  drop_after [] (suc k) j h = refl
  drop_after (x ∷ l) zero j h = refl
  drop_after (x ∷ l) (suc k) zero h = absurd (omega arith)
  drop_after (x ∷ l) (suc k) (suc j) h = drop_after l k j (omega arith)

-- ---- refusals, in their order

refused_same : {A : Type 0} {r k : ℕ} → ◌≡◌ {A = Reading A} (refused r) (refused k) → r ≡ k
refused_same e = cc

abbrev new_live : List ℕ → Under → Live
new_live label u = record { label = label; asked = u; blocks = []; grants = []; numbers = λ s c. 0 }

module _ (n : ℕ) (label : List ℕ) (day : ℕ) where
  refused_make : {r : ℕ} → MakeRefused n label day r → make n label day ≡ refused r
  unfolding make
  refused_make (bad_day e) = rw e
  refused_make (bad_names e f) = rw (e, f)
  refused_make (bad_label e f r g) = rw (e, f, g)

  make_refused : (r : ℕ) → make n label day ≡ refused r → MakeRefused n label day r
  unfolding make
  make_refused r = by (real_date day) refl (job_size n) refl (read_term n label) refl
    where
      by : (b : Bool) → real_date day ≡ b → (j : Bool) → job_size n ≡ j → (t : Reading Term) → read_term n label ≡ t
          → require b 86 (require j 7 (and_then (and_then (from 40 t) (λ L. accepted (under n L day))) (λ u. accepted (new_live label u)))) ≡ refused r → MakeRefused n label day r
      by false f j g t h e = rw (← refused_same e) (bad_day f)
      by true f false g t h e = rw (← refused_same e) (bad_names f g)
      by true f true g (refused k) h e = rw (← refused_same e) (bad_label f g k h)
      by true f true g (accepted t) h e = absurd (let z : ◌≡◌ {A = ℕ} 0 1 = cc in omega arith)

  -- 86 for the day, else 7, else the label's, and nothing else
  pub make_refused_exactly : (r : ℕ) → make n label day ≡ refused r ↔ MakeRefused n label day r
  make_refused_exactly r = (make_refused r, refused_make)

module _ (n : ℕ) (block : List ℕ) where
  refused_block : {r : ℕ} → BlockRefused n block r → read_block n block ≡ refused r
  unfolding read_block
  refused_block (bad_size e) = rw (ne_eqb (length block) 512 e)
  refused_block (bad_check e f) = rw (eq-eqb (length block) 512 e, f)
  refused_block (bad_grant e f r g) = rw (eq-eqb (length block) 512 e, f, g)

  block_refused : (r : ℕ) → read_block n block ≡ refused r → BlockRefused n block r
  unfolding read_block
  block_refused r = by (eqb (length block) 512) refl (checked block) refl
    where
      by : (a : Bool) → eqb (length block) 512 ≡ a → (b : Bool) → checked block ≡ b → require a 10 (require b 11 (read_grant n block)) ≡ refused r → BlockRefused n block r
      by false f b g e = rw (← refused_same e) (bad_size (λ h. clash (eq-eqb (length block) 512 h) f))
      by true f false g e = rw (← refused_same e) (bad_check (eqb-true (length block) 512 f) g)
      by true f true g e = bad_grant (eqb-true (length block) 512 f) g r e

  -- 10 for its size, else 11 for its check, else as a grant's
  pub block_refused_exactly : (r : ℕ) → read_block n block ≡ refused r ↔ BlockRefused n block r
  block_refused_exactly r = (block_refused r, refused_block)

module _ (x : Live) (block : List ℕ) where
  refused_add : {r : ℕ} → AddRefused x block r → added x block ≡ refused r
  unfolding added
  refused_add (bad_block r e) = rw e
  refused_add (no_room g e l) = rw (e, le-ltb (length x.blocks) 64 l)

  add_refused : (r : ℕ) → added x block ≡ refused r → AddRefused x block r
  unfolding added
  add_refused r = by (read_block x.asked.names block) refl (ltb (length x.blocks) 64) refl
    where
      by : (t : Reading Grant) → read_block x.asked.names block ≡ t → (b : Bool) → ltb (length x.blocks) 64 ≡ b → and_then t (λ g. require b 87 (accepted (grown x block g))) ≡ refused r → AddRefused x block r
      by (refused k) f b g e = rw (← refused_same e) (bad_block k f)
      by (accepted h) f false g e = rw (← refused_same e) (no_room h f (ltb-false (length x.blocks) 64 g))
      by (accepted h) f true g e = absurd (let z : ◌≡◌ {A = ℕ} 0 1 = cc in omega arith)

  -- the block's refusals, else 87 where 64 grants are held
  pub add_refused_exactly : (r : ℕ) → added x block ≡ refused r ↔ AddRefused x block r
  add_refused_exactly r = (add_refused r, refused_add)

-- 88 where there is no grant k, and nothing else
pub withdraw_refused_exactly : (x : Live) (k r : ℕ) → withdrawn x k ≡ refused r ↔ ((r ≡ 88) × (length x.grants ≤ k))
unfolding withdrawn
withdraw_refused_exactly x k r = (
  λ e. ⊎_elim
      (λ l. let t = grant_there x.grants k l in let f = simp t.is at e in absurd (let z : ◌≡◌ {A = ℕ} 0 1 = cc in omega arith))
      (λ l. (sym (refused_same (simp (grant_none x.grants k l) at e)), l))
      (lt_or_ge k (length x.grants)),
  λ h. rw (grant_none x.grants k h.1, h.0),
)

-- ---- the numbers

module _ (u : Under) (s : Side) (c : ℕ) where
  pub afresh_first : (g : Grant) (gs : List Grant) → afresh u (g ∷ gs) s c ≡ bit (breaks_counting u g s c) + afresh u gs s c
  unfolding afresh broken_count chosen breaks_counting
  afresh_first g gs = by (counts_under u g)
    where
      by : (b : Bool) → broken_count (cond b (g ∷ counting u gs) (counting u gs)) s c ≡ bit (b && breaks (marks_of g) s c) + broken_count (counting u gs) s c
      by true = refl
      by false = sym (zero-add (broken_count (counting u gs) s c))

  pub afresh_last : (gs : List Grant) (g : Grant) → afresh u (gs ++ g ∷ []) s c ≡ afresh u gs s c + bit (breaks_counting u g s c)
  afresh_last [] g = omega (arith, afresh_first g [])
  afresh_last (h ∷ gs) g = omega (arith, afresh_first h (gs ++ g ∷ []), afresh_first h gs, afresh_last gs g)

  -- with the grant at k, and without it
  pub afresh-without : (gs : List Grant) (k : ℕ) (g : Grant) → grant_at gs k ≡ accepted g → afresh u gs s c ≡ afresh u (dropped_at k gs) s c + bit (breaks_counting u g s c)
  unfolding grant_at
  afresh-without [] k g e = absurd (let z : ◌≡◌ {A = ℕ} 0 1 = cc in omega arith)
  afresh-without (h ∷ gs) zero g e =
      let same : h ≡ g = accepted_same e in
      rw (← same) (omega (arith, afresh_first h gs))
  afresh-without (h ∷ gs) (suc k) g e = omega (arith, afresh_first h gs, afresh_first h (dropped_at k gs), afresh-without gs k g e)

  -- a number is at most that of the grants
  pub afresh_most : (gs : List Grant) → afresh u gs s c ≤ length gs
  unfolding afresh broken_count chosen
  afresh_most [] = omega arith
  afresh_most (g ∷ gs) = omega (arith, afresh_first g gs, bit_lt (breaks_counting u g s c), afresh_most gs)

-- none of the grants is broken exactly if the coalition keeps each
none_broken : (s : Side) (c : ℕ) (gs : List Grant) → eqb (broken_count gs s c) 0 ≡ sound_of gs s c
unfolding broken_count sound
none_broken s c [] = refl
none_broken s c (g ∷ gs) = by (held g.p s c) (held g.q s c) (ap (λ (k : ℕ). eqb k 0) (zero-add (broken_count gs s c)) ∙ none_broken s c gs)
  where
    by : (p q : Bool) → eqb (0 + broken_count gs s c) 0 ≡ sound_of gs s c → eqb (bit (p && not q) + broken_count gs s c) 0 ≡ (implies p q && sound_of gs s c)
    by false q ih = ih
    by true true ih = ih
    by true false ih = ne_eqb (1 + broken_count gs s c) 0 (λ e. omega arith)

-- sound is number 0
pub sound_clear : (u : Under) (s : Side) (c : ℕ) (gs : List Grant) → eqb (afresh u gs s c) 0 ≡ sound_of (counting u gs) s c
unfolding afresh
sound_clear u s c gs = none_broken s c (counting u gs)

-- ---- what calls keep true

pub made_good : (n : ℕ) (label : List ℕ) (day : ℕ) (x : Live) → make n label day ≡ accepted x → Good x
unfolding make afresh broken_count chosen
made_good n label day x e =
    let d = require_accepted (real_date day) 86 _ x e in
    let f = require_accepted (job_size n) 7 _ x d.1 in
    let u = then_accepted (read_under n label day) _ x f.1 in
    let t = then_accepted (from 40 (read_term n label)) (λ L. accepted (under n L day)) u.value u.was in
    rw (← accepted_same u.then, ← accepted_same t.then)
    (record {
      names_fit = f.0;
      label_read = from_accepted 40 (read_term n label) t.value t.was;
      day_real = d.0;
      blocks_read = none;
      few = omega arith;
      true_numbers = λ s c. refl;
    })

pub good_added : (x : Live) (block : List ℕ) (y : Live) → Good x → added x block ≡ accepted y → Good y
unfolding added
good_added x block y h e =
    let t = then_accepted (read_block x.asked.names block) _ y e in
    let r = require_accepted (ltb (length x.blocks) 64) 87 _ y t.then in
    let room : length x.blocks < 64 = ltb-true (length x.blocks) 64 r.0 in
    rw (← accepted_same r.1)
    (record {
      names_fit = h.names_fit;
      label_read = h.label_read;
      day_real = h.day_real;
      blocks_read = holding_append h.blocks_read (some t.was none);
      few = omega (arith, length-append x.blocks (block ∷ []));
      true_numbers = λ s c. omega (arith, h.true_numbers s c, afresh_last x.asked s c x.grants t.value);
    })

pub good_withdrawn : (x : Live) (k : ℕ) (y : Live) → Good x → withdrawn x k ≡ accepted y → Good y
unfolding withdrawn
good_withdrawn x k y h e =
    let t = then_accepted (grant_at x.grants k) _ y e in
    rw (← accepted_same t.then)
    (record {
      names_fit = h.names_fit;
      label_read = h.label_read;
      day_real = h.day_real;
      blocks_read = holding_append (holding_take k h.blocks_read) (holding_drop (suc k) h.blocks_read);
      few = omega (arith, h.few, length-append (take k x.blocks) (drop (suc k) x.blocks), length-take k x.blocks, length-drop (suc k) x.blocks);
      true_numbers = λ s c. omega (arith, h.true_numbers s c, afresh-without x.asked s c x.grants k t.value t.was);
    })

pub good_step : (call : Call) (x : Live) → Good x → Good (step call x).next
unfolding step
good_step (add block) x h = by (added x block) refl
  where
    by : (r : Reading Live) → added x block ≡ r → Good (altered x r).next
    by (accepted y) e = good_added x block y h e
    by (refused r) e = h
good_step (withdraw k) x h = by (withdrawn x k) refl
  where
    by : (r : Reading Live) → withdrawn x k ≡ r → Good (altered x r).next
    by (accepted y) e = good_withdrawn x k y h e
    by (refused r) e = h
good_step (ask_acts_for p q) x h = h
good_step (ask_flows_to p q) x h = h

pub good_run : (calls : List Call) (x : Live) → Good x → Good (run calls x)
unfolding run
good_run [] x h = h
good_run (call ∷ calls) x h = good_run calls (step call x).next (good_step call x h)

pub grants_most : (x : Live) → Good x → length x.grants ≤ 64
grants_most x h = omega (arith, h.few, holding_length h.blocks_read)

-- every number is at most that of the grants held, and these are at most 64
pub numbers_most : (x : Live) → Good x → (s : Side) (c : ℕ) → (x.numbers s c ≤ length x.grants) × (length x.grants ≤ 64)
numbers_most x h s c = (omega (arith, h.true_numbers s c, afresh_most x.asked s c x.grants), grants_most x h)

-- ---- the answers

module _ (x : Live) (h : Good x) where
  -- what the written ledger is read as
  abbrev read : Ledger
  read = record { names = x.asked.names; grants = x.grants }

  pub sound-written : (s : Side) (c : ℕ) → sound_by x.numbers s c ≡ sound_under read x.asked s c
  unfolding sound_under
  sound-written s c = ap (λ (k : ℕ). eqb k 0) (h.true_numbers s c) ∙ sound_clear x.asked s c x.grants

  ask-written : (live : Live → Term → Term → Answer) (answer : Ledger → Under → Term → Term → Answer)
      → ((tp tq : Term) → live x tp tq ≡ answer read x.asked tp tq)
      → (p q : List ℕ) → ask_live live x p q ≡ ask answer (written x) p q x.label x.asked.day
  unfolding ask_live ask
  ask-written live answer same p q = rw (h.day_real, written_read x h, h.label_read) (by (read_term x.asked.names p) (read_term x.asked.names q))
    where
      by : (a b : Reading Term) → given (from 20 a) (λ tp. given (from 30 b) (λ tq. live x tp tq)) ≡ given (from 20 a) (λ tp. given (from 30 b) (λ tq. answer read x.asked tp tq))
      by (refused r) b = refl
      by (accepted tp) (refused r) = refl
      by (accepted tp) (accepted tq) = same tp tq

  -- the answers are those of the written ledger with the same grants, refusals of p and q included
  pub acts_for_written : (p q : List ℕ) → ask_live acts_for_live x p q ≡ acts_for (written x) p q x.label x.asked.day
  unfolding acts_for acts_for_live acts_for_under
  acts_for_written = ask-written acts_for_live acts_for_under (λ tp tq. ap answer_to (judge_cong x.asked.names (sound_by x.numbers) (sound_under read x.asked) (held tp) (held tq) (λ s c l. sound-written s c)))

  pub flows_to_written : (p q : List ℕ) → ask_live flows_to_live x p q ≡ flows_to (written x) p q x.label x.asked.day
  unfolding flows_to flows_to_live flows_to_under
  flows_to_written = ask-written flows_to_live flows_to_under (λ tp tq. ap answer_to (judge_cong x.asked.names (sound_by x.numbers) (sound_under read x.asked) (across tq tp) (across tp tq) (λ s c l. sound-written s c)))

-- an answer that is no refusal
abbrev Answers : Answer → Type 0
Answers a = (r : ℕ) → a ≡ Refused r → ⊥

verdict_answers : (v : Verdict) → Answers (answer_to v)
verdict_answers holds r e = let z : ◌≡◌ {A = ℕ} 0 1 = cc in omega arith
verdict_answers (refuted s c) r e = let z : ◌≡◌ {A = ℕ} 0 1 = cc in omega arith

module _ (x : Live) (p q : List ℕ) where
  refused_ask : (answer : Live → Term → Term → Answer) {r : ℕ} → AskRefused x.asked.names p q r → ask_live answer x p q ≡ Refused r
  unfolding ask_live
  refused_ask answer (bad_p r e) = rw e
  refused_ask answer (bad_q t e r f) = rw (e, f)

  ask_refused : (answer : Live → Term → Term → Answer) → ((tp tq : Term) → Answers (answer x tp tq)) → (r : ℕ) → ask_live answer x p q ≡ Refused r → AskRefused x.asked.names p q r
  unfolding ask_live
  ask_refused answer all r = by (read_term x.asked.names p) refl (read_term x.asked.names q) refl
    where
      by : (a : Reading Term) → read_term x.asked.names p ≡ a → (b : Reading Term) → read_term x.asked.names q ≡ b → given (from 20 a) (λ tp. given (from 30 b) (λ tq. answer x tp tq)) ≡ Refused r → AskRefused x.asked.names p q r
      by (refused k) f b g e = let z : 20 + k ≡ r = cc in rw (← z) (bad_p k f)
      by (accepted t) f (refused k) g e = let z : 30 + k ≡ r = cc in rw (← z) (bad_q t f k g)
      by (accepted t) f (accepted v) g e = absurd (all t v r e)

  -- the refusals of p, else those of q, and nothing else
  pub acts_for_refused_exactly : (r : ℕ) → ask_live acts_for_live x p q ≡ Refused r ↔ AskRefused x.asked.names p q r
  unfolding acts_for_live
  acts_for_refused_exactly r = (ask_refused acts_for_live (λ tp tq. verdict_answers (judge x.asked.names (sound_by x.numbers) (held tp) (held tq))) r, refused_ask acts_for_live)

  pub flows_to_refused_exactly : (r : ℕ) → ask_live flows_to_live x p q ≡ Refused r ↔ AskRefused x.asked.names p q r
  unfolding flows_to_live
  flows_to_refused_exactly r = (ask_refused flows_to_live (λ tp tq. verdict_answers (judge x.asked.names (sound_by x.numbers) (across tq tp) (across tp tq))) r, refused_ask flows_to_live)

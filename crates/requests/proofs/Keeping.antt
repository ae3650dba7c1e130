-- What a live ledger keeps true after every list of calls, and what each call does. Assumes nothing.
use mathlib.Core.Path.{◌≡◌, refl, sym, ap, ◌∙◌}
use mathlib.Core.Logic.Iff
use mathlib.Core.Logic.{◌↔◌, inl, inr}
use Prim.Native.Nat.{ℕ, ◌+◌, ◌-◌}
use mathlib.Core.Bool.{Bool, true}
use mathlib.Core.List.{List, [], ◌∷◌, ◌++◌}
use native.Mathlib.Omega.{arith}
use lib.Dec.{eqb, ltb}
use lib.ListN.{length}
use borrow.Author.Tests.{eqb-true, eq-eqb}
use Rattle.model.specs.Sides.{Side}
use Rattle.model.specs.Readings.{Reading, accepted, refused, from}
use Rattle.model.specs.Coalitions.{bit}
use Rattle.model.specs.Terms.{job_size, read_term}
use Rattle.model.specs.Dates.{real_date}
use Rattle.model.specs.Grants.{Grant, Under, under, read_under}
use Rattle.model.specs.Ledgers.{read_block}
use Rattle.model.specs.Answers.{Refused}
use Rattle.model.specs.Live.{Live, make, breaks_counting, grown, added, dropped_at, grant_at, shrunk, withdrawn, Call, add, withdraw, ask_acts_for, ask_flows_to, altered, step, run, Good}
use Rattle.model.specs.Meanings.{MakeRefused, bad_day, bad_names, bad_label, BlockRefused, bad_size, bad_check, bad_grant, AddRefused, bad_block, no_room, AskRefused, bad_p, bad_q}
use Rattle.model.proofs.Accepted.{accepted_same, require_accepted, then_accepted}
use Rattle.model.proofs.Refusals.{refused_number}
use Rattle.model.proofs.Live.{holding_length, written_read, drop-before, drop_after, make_refused_exactly, block_refused_exactly, add_refused_exactly, withdraw_refused_exactly, made_good, good_run, grants_most, numbers_most, sound-written, acts_for_written, flows_to_written, acts_for_refused_exactly, flows_to_refused_exactly}
use Rattle.demands.specs.Numbers.{◌to◌, OneOf}
use Rattle.demands.proofs.Refusing.{only_grant}
use Rattle.requests.specs.Live.{Written, StoredAreAfresh, SoundIsNumber0, AnswersAreWritten, MadeWith, StayAsMade, AtMostTheGrants, RefusedChangesNothing, OrderKept, TwinsCountEach, GivenBack, AddingIsUndone, RefusedInOrder, RefusalNumbers}

-- ---- what was accepted

record Grew (x : Live) (block : List ℕ) (y : Live) : Type 0 where
  grant : Grant
  read : read_block x.asked.names block ≡ accepted grant
  is : grown x block grant ≡ y

grew : (x : Live) (block : List ℕ) (y : Live) → added x block ≡ accepted y → Grew x block y
unfolding added
grew x block y e =
    let t = then_accepted (read_block x.asked.names block) _ y e in
    let r = require_accepted (ltb (length x.blocks) 64) 87 _ y t.then in
    record { grant = t.value; read = t.was; is = accepted_same r.1 }

record Shrank (x : Live) (k : ℕ) (y : Live) : Type 0 where
  grant : Grant
  at : grant_at x.grants k ≡ accepted grant
  is : shrunk x k grant ≡ y

shrank : (x : Live) (k : ℕ) (y : Live) → withdrawn x k ≡ accepted y → Shrank x k y
unfolding withdrawn
shrank x k y e = let t = then_accepted (grant_at x.grants k) _ y e in record { grant = t.value; at = t.was; is = accepted_same t.then }

-- ---- n, label and day

made_with : (n : ℕ) (label : List ℕ) (day : ℕ) (x : Live) → make n label day ≡ accepted x → MadeWith n label day x
unfolding make
made_with n label day x e =
    let d = require_accepted (real_date day) 86 _ x e in
    let f = require_accepted (job_size n) 7 _ x d.1 in
    let u = then_accepted (read_under n label day) _ x f.1 in
    let t = then_accepted (from 40 (read_term n label)) (λ L. accepted (under n L day)) u.value u.was in
    rw (← accepted_same u.then)
    (record {
      same_names = sym (ap (λ (v : Under). v.names) (accepted_same t.then));
      same_label = refl;
      same_under = u.was;
      same_day = sym (ap (λ (v : Under). v.day) (accepted_same t.then));
    })

-- no call alters them
record Alike (x y : Live) : Type 0 where
  label : x.label ≡ y.label
  asked : x.asked ≡ y.asked

step_alike : (call : Call) (x : Live) → Alike (step call x).next x
unfolding step
step_alike (add block) x = by (added x block) refl
  where
    by : (r : Reading Live) → added x block ≡ r → Alike (altered x r).next x
    by (accepted y) e = let g = grew x block y e in rw (← g.is) record { label = refl; asked = refl }
    by (refused r) e = record { label = refl; asked = refl }
step_alike (withdraw k) x = by (withdrawn x k) refl
  where
    by : (r : Reading Live) → withdrawn x k ≡ r → Alike (altered x r).next x
    by (accepted y) e = let g = shrank x k y e in rw (← g.is) record { label = refl; asked = refl }
    by (refused r) e = record { label = refl; asked = refl }
step_alike (ask_acts_for p q) x = record { label = refl; asked = refl }
step_alike (ask_flows_to p q) x = record { label = refl; asked = refl }

run_alike : (calls : List Call) (x : Live) → Alike (run calls x) x
unfolding run
run_alike [] x = record { label = refl; asked = refl }
run_alike (call ∷ calls) x =
    let later = run_alike calls (step call x).next in
    let now = step_alike call x in
    record { label = later.label ∙ now.label; asked = later.asked ∙ now.asked }

pub stay_as_made : StayAsMade
stay_as_made n label day x calls e =
    let m = made_with n label day x e in
    let a = run_alike calls x in
    record {
      same_names = ap (λ (u : Under). u.names) a.asked ∙ m.same_names;
      same_label = a.label ∙ m.same_label;
      same_under = m.same_under ∙ ap accepted (sym a.asked);
      same_day = ap (λ (u : Under). u.day) a.asked ∙ m.same_day;
    }

-- ---- after every list of calls

module _ (n : ℕ) (label : List ℕ) (day : ℕ) (x : Live) (calls : List Call) (e : make n label day ≡ accepted x) where
  reached : Good (run calls x)
  reached = good_run calls x (made_good n label day x e)

  made : MadeWith n label day (run calls x)
  made = stay_as_made n label day x calls e

  is_written : Written n label day (run calls x)
  is_written = record {
    ledger = record { names = (run calls x).asked.names; grants = (run calls x).grants };
    asked = (run calls x).asked;
    ledger_is = rw (← made.same_names) (written_read (run calls x) reached);
    label_is = made.same_under;
  }

pub stored_are_afresh : StoredAreAfresh
unfolding is_written
stored_are_afresh n label day x calls e = record { is_written = is_written n label day x calls e; numbers = (reached n label day x calls e).true_numbers }

zero_exactly : (k : ℕ) (b : Bool) → eqb k 0 ≡ b → k ≡ 0 ↔ b ≡ true
zero_exactly k b e = (λ z. sym e ∙ eq-eqb k 0 z, λ t. eqb-true k 0 (e ∙ t))

pub sound_is_number_0 : SoundIsNumber0
unfolding is_written
sound_is_number_0 n label day x calls e = record {
  is_written = is_written n label day x calls e;
  is_sound = λ s c. zero_exactly ((run calls x).numbers s c) _ (sound-written (run calls x) (reached n label day x calls e) s c);
}

pub answers_are_written : AnswersAreWritten
unfolding step
answers_are_written n label day x calls e =
    let m = made n label day x calls e in
    let g = reached n label day x calls e in
    record {
      by_acts_for = λ p q. rw (← m.same_names, ← m.same_label, ← m.same_day) (acts_for_written (run calls x) g p q);
      by_flows_to = λ p q. rw (← m.same_names, ← m.same_label, ← m.same_day) (flows_to_written (run calls x) g p q);
    }

pub at_most_the_grants : AtMostTheGrants
at_most_the_grants n label day x calls e =
    let g = reached n label day x calls e in
    record {
      number_most = λ s c. (numbers_most (run calls x) g s c).0;
      one_block_each = holding_length g.blocks_read;
      grants_most = omega (arith, grants_most (run calls x) g);
    }

-- ---- what each call does

-- a reading's refusal is the reply, and no other reply is one
altered_refused : (x : Live) (t : Reading Live) (r : ℕ) → (altered x t).reply ≡ Refused r ↔ t ≡ refused r
altered_refused x (accepted y) r = (λ e. absurd (let z : ◌≡◌ {A = ℕ} 0 1 = cc in omega arith), λ e. absurd (let z : ◌≡◌ {A = ℕ} 0 1 = cc in omega arith))
altered_refused x (refused k) r = (λ e. cc, λ e. cc)

unaltered : (x : Live) (t : Reading Live) (r : ℕ) → t ≡ refused r → (altered x t).next ≡ x
unaltered x t r e = rw e

refused_call : (call : Call) (x : Live) (r : ℕ) → (step call x).reply ≡ Refused r → (step call x).next ≡ x
unfolding step
refused_call (add block) x r e = unaltered x (added x block) r ((altered_refused x (added x block) r).0 e)
refused_call (withdraw k) x r e = unaltered x (withdrawn x k) r ((altered_refused x (withdrawn x k) r).0 e)
refused_call (ask_acts_for p q) x r e = refl
refused_call (ask_flows_to p q) x r e = refl

pub refused_changes_nothing : RefusedChangesNothing
unfolding step
refused_changes_nothing = record { refused_call = refused_call; by_acts_for = λ p q x. refl; by_flows_to = λ p q x. refl }

pub order_kept : OrderKept
order_kept = record {
  last = λ x block y e. sym (ap (λ (z : Live). z.blocks) (grew x block y e).is);
  earlier = λ x k y e j l. rw (← (shrank x k y e).is) (drop-before [] x.blocks k j l);
  later = λ x k y e j l. rw (← (shrank x k y e).is) (drop_after [] x.blocks k j l);
}

-- the numbers of a grant that is added or withdrawn
raised : (x : Live) (block : List ℕ) (y : Live) (g : Grant) → read_block x.asked.names block ≡ accepted g → added x block ≡ accepted y
    → (y.asked ≡ x.asked) × ((s : Side) (c : ℕ) → y.numbers s c ≡ x.numbers s c + bit (breaks_counting x.asked g s c))
raised x block y g r e =
    let t = grew x block y e in
    let same : t.grant ≡ g = accepted_same (sym t.read ∙ r) in
    rw (← t.is, same) (refl, λ s c. refl)

lowered : (x : Live) (k : ℕ) (y : Live) (g : Grant) → grant_at x.grants k ≡ accepted g → withdrawn x k ≡ accepted y → (s : Side) (c : ℕ) → y.numbers s c ≡ x.numbers s c - bit (breaks_counting x.asked g s c)
lowered x k y g r e s c =
    let t = shrank x k y e in
    let same : t.grant ≡ g = accepted_same (sym t.at ∙ r) in
    rw (← t.is, same) refl

pub twins_count_each : TwinsCountEach
twins_count_each x block y z g r e f =
    let a = raised x block y g r e in
    let b = raised y block z g (rw a.0 r) f in
    let more : (s : Side) (c : ℕ) → z.numbers s c ≡ y.numbers s c + bit (breaks_counting x.asked g s c) = λ s c. rw a.0 at (b.1 s c) in
    record {
      counted_twice = λ s c. omega (arith, a.1 s c, more s c);
      counted_once = λ k w h i s c. omega (arith, a.1 s c, more s c, rw (b.0, a.0) at (lowered z k w g h i s c));
    }

-- the last one is withdrawn
drop_last : {A : Type 0} (l : List A) (a : A) → dropped_at (length l) (l ++ a ∷ []) ≡ l
drop_last {A = A} [] a = refl
drop_last {A = A} (b ∷ l) a = ap (λ (m : List A). b ∷ m) (drop_last l a)

grant_last : (gs : List Grant) (g : Grant) → grant_at (gs ++ g ∷ []) (length gs) ≡ accepted g
unfolding grant_at
grant_last [] g = refl
grant_last (h ∷ gs) g = grant_last gs g

undone : (x : Live) (block : List ℕ) (g : Grant) → length x.blocks ≡ length x.grants → GivenBack x (grown x block g)
unfolding withdrawn
undone x block g e = record {
  back = shrunk (grown x block g) (length x.grants) g;
  is_withdrawn = rw (grant_last x.grants g);
  same_blocks = rw (← e) (drop_last x.blocks block);
  same_grants = drop_last x.grants g;
  same_numbers = λ s c. omega arith;
}

pub adding_is_undone : AddingIsUndone
adding_is_undone n label day x calls e block y a =
    let t = grew (run calls x) block y a in
    rw (← t.is) (undone (run calls x) block t.grant (holding_length (reached n label day x calls e).blocks_read))

-- ---- refusals

pub refused_in_order : RefusedInOrder
unfolding step
refused_in_order = record {
  new = make_refused_exactly;
  block = block_refused_exactly;
  adding = λ block x r. Iff.trans (altered_refused x (added x block) r) (add_refused_exactly x block r);
  withdrawing = λ k x r. Iff.trans (altered_refused x (withdrawn x k) r) (withdraw_refused_exactly x k r);
  by_acts_for = λ p q x r. acts_for_refused_exactly x p q r;
  by_flows_to = λ p q x r. flows_to_refused_exactly x p q r;
}

make-number : {n : ℕ} {label : List ℕ} {day r : ℕ} → MakeRefused n label day r → OneOf (86 to 86 ∷ 7 to 7 ∷ 41 to 44 ∷ []) r
make-number (bad_day e) = inl (omega arith, omega arith)
make-number (bad_names e f) = inr (inl (omega arith, omega arith))
make-number {n} {label} (bad_label e f r g) = let k = refused_number n label r g in inr (inr (inl (omega arith, omega arith)))

abbrev AddNumber : ℕ → Type 0
AddNumber = OneOf (10 to 11 ∷ 13 to 14 ∷ 84 to 85 ∷ 87 to 87 ∷ [])

block_number : {n : ℕ} {block : List ℕ} {r : ℕ} → BlockRefused n block r → AddNumber r
block_number (bad_size e) = inl (omega arith, omega arith)
block_number (bad_check e f) = inl (omega arith, omega arith)
block_number {n} {block} (bad_grant e f r g) =
    let o = only_grant AddNumber (inr (inl (omega arith, omega arith))) (inr (inl (omega arith, omega arith))) (inr (inr (inl (omega arith, omega arith)))) (inr (inr (inl (omega arith, omega arith)))) n block in
    rw g at o

add_number : {x : Live} {block : List ℕ} {r : ℕ} → AddRefused x block r → AddNumber r
add_number {x} {block} (bad_block r e) = block_number ((block_refused_exactly x.asked.names block r).0 e)
add_number (no_room g e l) = inr (inr (inr (inl (omega arith, omega arith))))

ask-number : {n : ℕ} {p q : List ℕ} {r : ℕ} → AskRefused n p q r → OneOf (21 to 24 ∷ 31 to 34 ∷ []) r
ask-number {n} {p} (bad_p r e) = let k = refused_number n p r e in inl (omega arith, omega arith)
ask-number {n} {p} {q} (bad_q t e r f) = let k = refused_number n q r f in inr (inl (omega arith, omega arith))

pub refusal_numbers : RefusalNumbers
refusal_numbers = record {
  new = λ n label day r h. make-number h;
  adding = λ block x r h. add_number h;
  asking = λ n p q r h. ask-number h;
}

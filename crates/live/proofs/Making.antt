-- A new live ledger: what was written holds it. Assumes nothing.
use mathlib.Core.Path.{◌≡◌, refl, sym, ap, ◌∙◌, subst}
use Rattle.std.specs.Prelude.{Ok, Err}
use mathlib.Core.List.{List, []}
use Prim.Native.Nat.{ℕ, ◌≤◌}
use native.Mathlib.Nat.{zero-add}
use native.Mathlib.Omega.{arith}
use mathlib.Core.Bool.{true, false}
use lib.ListN.{length, take}
use lib.Seq.{paste, take-paste, take_all}
use Rattle.model.specs.Readings.{accepted, refused}
use Rattle.model.specs.Terms.{Term, job_size, read_term}
use Rattle.model.specs.Answers as model
use Rattle.model.specs.Dates.{real_date}
use Rattle.model.specs.Grants.{under}
use Rattle.model.specs.Live as model_live
use Rattle.model.specs.Live.{make}
use Rattle.model.specs.Meanings.{bad_day, bad_names, bad_label}
use Rattle.model.proofs.Reading.{accepted_codes}
use Rattle.model.proofs.Accepted.{accepted_same}
use Rattle.model.proofs.Live.{make_refused_exactly, made_good}
use Rattle.refusals.specs.declared.TermRefusal.{TermRefusal}
use Rattle.refusals.specs.declared.Refusal.{Refusal}
use Rattle.refusals.specs.declared.Refusal.TheVariants.{Label, Names, NotReal}
use Rattle.refusals.specs.Numbers.{term_number, refusal_number}
use Rattle.blocks.specs.Front.{Rewritten}
use Rattle.stored.specs.Stored.{Stored}
use Rattle.live.specs.declared.Live.{Live}
use Rattle.live.specs.Held.{Holds, Made}

-- a label that is accepted fits the head
pub label_short : (n : ℕ) (label : List ℕ) (t : Term) → read_term n label ≡ accepted t → length label ≤ 64
label_short n label t e = ((accepted_codes n label t).0 e).2

module _ (n : ℕ) (label : List ℕ) (day : ℕ) (before ledger planes : List ℕ) where
  made_refused : (why : Refusal) → make n label day ≡ refused (refusal_number why) → Made n label day before (Err why) ledger planes
  made_refused why e = record {
    made = λ x g. absurd (let z : ◌≡◌ {A = ℕ} 0 1 = cc in omega arith);
    not_made = λ k g. let z : refusal_number why ≡ k = cc in ap model.Refused z;
  }

  pub made_day : real_date day ≡ false → Made n label day before (Err NotReal) ledger planes
  made_day e = made_refused NotReal ((make_refused_exactly n label day 86).1 (bad_day e))

  module _ (real : real_date day ≡ true) where
    pub made_names : job_size n ≡ false → Made n label day before (Err Names) ledger planes
    made_names e = made_refused Names ((make_refused_exactly n label day 7).1 (bad_names real e))

    pub made_label : job_size n ≡ true → (why : TermRefusal) → read_term n label ≡ refused (term_number why) → Made n label day before (Err (Label why)) ledger planes
    made_label few why e = made_refused (Label why) ((make_refused_exactly n label day _).1 (bad_label real few _ e))

module _ (n : ℕ) (label : List ℕ) (day : ℕ) (before text ledger planes : List ℕ) (L : Term) where
  abbrev new_head : Live
  new_head = record { names = n; day = day; held = 0; codes = length label; label = paste text 0 label (length label) }

  pub made_new : real_date day ≡ true → job_size n ≡ true → read_term n label ≡ accepted L → length text ≡ 64 → length label ≤ 64 → Rewritten before n [] ledger → Stored n planes (λ s c. 0)
      → Made n label day before (Ok new_head) ledger planes
  unfolding make
  made_new real few read room short new zero =
      let y : model_live.Live = record { label = label; asked = under n L day; blocks = []; grants = []; numbers = λ s c. 0 } in
      let is : make n label day ≡ accepted y = rw (real, few, read) in
      let text_label : take (length label) (paste text 0 label (length label)) ≡ label =
      ap (λ (i : ℕ). take i (paste text 0 label (length label))) (sym (zero-add (length label))) ∙ take-paste text 0 label (length label) (omega arith) (omega arith) ∙ take_all (length label) label (omega arith) in
      let holds : Holds new_head ledger planes y = record {
        names = refl;
        day = refl;
        held = refl;
        label = text_label;
        good = made_good n label day y is;
        kept = new.kept;
        numbers = zero;
      } in
      record {
        made = λ x e. (new_head, refl, subst (Holds new_head ledger planes) (accepted_same (sym is ∙ e)) holds, new.later);
        not_made = λ r e. cc;
      }

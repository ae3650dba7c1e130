-- A coalition is listed if every member is needed: for terms, which are monotone, these are the minimal coalitions, and there is room for them (document 02,
-- K12). Assumes nothing.
use mathlib.Core.Path.{◌≡◌, sym, ap, ◌∙◌}
use mathlib.Core.Bool.{Bool, true, false, not}
use mathlib.Core.List.{List}
use mathlib.Core.Logic.{◌↔◌}
use Prim.Native.Nat.{ℕ, ◌-◌, ◌*◌, ◌/◌, ◌%◌, ◌^◌, ◌≤◌, ◌<◌}
use native.Mathlib.Omega.{arith}
use lib.ListN.{length}
use borrow.Author.Tests.{eq-eqb, ne_eqb, not-true}
use Rattle.model.specs.Sides.{Side}
use Rattle.model.specs.Coalitions.{member, implies, every}
use Rattle.model.specs.Terms.{Term, held}
use Rattle.model.specs.ShortForms.{minimal, listed}
use Rattle.model.proofs.Truth.{and_intro, and_left, and_right, implies_elim, implies_intro, bool_ext}
use Rattle.model.proofs.Search.{every_elim, every_intro}
use Rattle.model.proofs.Monotone.{NoneLess, member_le, held_monotone, minimal_says}
use Rattle.model.proofs.Listed.{those_cong}
use Rattle.model.proofs.Packed.{member-packed, shifted}
use Rattle.sperner.proofs.Forms.{listed_few}
use Rattle.words.specs.Evaluation.{word_count, Tabled}
use Rattle.words.proofs.Names.{words_enough}
use Rattle.short_forms.specs.Listings.{marked, irredundant, listing}

-- the code's test of bit i, and the number without it
module _ (i c : ℕ) where
  pub is_member : c / 2 ^ i % 2 ≡ 1 → member i c ≡ true
  unfolding member
  is_member e = eq-eqb (c / 2 ^ i % 2) 1 e

  pub no_member : (c / 2 ^ i % 2 ≡ 1 → ⊥) → member i c ≡ false
  unfolding member
  no_member e = ne_eqb (c / 2 ^ i % 2) 1 e

  pub less_fits : i ≤ 12 → c / 2 ^ i % 2 ≡ 1 → 1 * 2 ^ i % 2 ^ 64 ≤ c
  less_fits h e = rw (shifted i (omega arith)) (member_le i c (is_member e))

module _ (n : ℕ) (f : ℕ → Bool) (c : ℕ) where
  needed : ℕ → Bool
  needed i = implies (member i c) (not (f (c - 2 ^ i)))

  pub irredundant_says : irredundant n f c ≡ true ↔ ((f c ≡ true) × NoneLess n f c)
  unfolding irredundant needed
  irredundant_says = (
    λ e. (
      and_left (f c) (every needed n) e,
      λ i l m. not-true (f (c - 2 ^ i)) (implies_elim (member i c) (not (f (c - 2 ^ i))) (every_elim needed n (and_right (f c) (every needed n) e) i l) m),
    ),
    λ w. and_intro w.0 (every_intro needed n (λ i l. implies_intro (member i c) (not (f (c - 2 ^ i))) (λ m. ap not (w.1 i l m)))),
  )

-- the table of a term of n names marks the coalitions that hold it
tabled_marks : (s : Side) (words : List ℕ) (n : ℕ) (t : Term) → n ≤ 12 → Tabled t s (word_count n) words → (c : ℕ) → c < 2 ^ n → marked words c ≡ held t s c
unfolding marked
tabled_marks s words n t h done c l =
    ap (member (c % 64)) (done.word (c / 64) (omega (arith, words_enough n h)))
    ∙ member-packed (held t s) (64 * (c / 64)) 64 (c % 64) (omega arith)
    ∙ ap (held t s) (omega arith)

-- the table's listing is the term's
pub listing-listed : (s : Side) (words : List ℕ) (n : ℕ) (t : Term) → n ≤ 12 → Tabled t s (word_count n) words
    → listing n (irredundant n (marked words)) ≡ listed n (held t s)
unfolding listing listed
listing-listed s words n t h done = rw (those_cong (irredundant n (marked words)) (minimal n (held t s)) 0 (2 ^ n) (λ c z l. same c (omega arith)))
  where
    marks : (c : ℕ) → c < 2 ^ n → marked words c ≡ held t s c
    marks = tabled_marks s words n t h done

    same : (c : ℕ) → c < 2 ^ n → irredundant n (marked words) c ≡ minimal n (held t s) c
    same c l =
        let says = minimal_says n (held t s) c (held_monotone n t s) l in
        bool_ext (irredundant n (marked words) c) (minimal n (held t s) c)
        (λ i. let w = (irredundant_says n (marked words) c).0 i in says.1 (sym (marks c l) ∙ w.0, λ i h m. sym (marks (c - 2 ^ i) (omega arith)) ∙ w.1 i h m))
        (λ i. let w = says.0 i in (irredundant_says n (marked words) c).1 (marks c l ∙ w.0, λ i h m. marks (c - 2 ^ i) (omega arith) ∙ w.1 i h m))

-- so it is no longer than a largest layer's
pub listing_few : (s : Side) (words : List ℕ) (n : ℕ) (t : Term) → n ≤ 12 → Tabled t s (word_count n) words
    → length (listing n (irredundant n (marked words))) ≤ 1850
listing_few s words n t h done = rw (listing-listed s words n t h done) (listed_few n (held t s) h)

-- The minimal coalitions of a short form are a family in which none is inside another, and so a short form fits (document 02, K12). Assumes nothing.
use mathlib.Core.Path.{◌≡◌, refl}
use Prim.Native.Nat.{ℕ, ◌*◌, ◌+◌, ◌^◌, ◌≤◌}
use native.Mathlib.Omega.{arith}
use mathlib.Core.Bool.{Bool, true, false, not, ◌&&◌}
use mathlib.Core.List.{List}
use lib.Dec.{leb}
use lib.ListN.{length, length-append}
use borrow.Author.Tests.{not-true, leb-true}
use Rattle.model.specs.Sides.{confidentiality, integrity}
use Rattle.model.specs.Readings.{Reading, accepted, refused, and_then, require}
use Rattle.model.specs.Coalitions.{Marks, every, proper_subset, those}
use Rattle.model.specs.Terms.{Term, job_size, read_term, held}
use Rattle.model.specs.Answers.{Written, written_front}
use Rattle.model.specs.Layers.{largest_layer, room_for}
use Rattle.model.specs.ShortForms.{minimal, listed, short_form, short_form_of, shorten}
use Rattle.model.proofs.Listed.{length_pairs}
use Rattle.model.proofs.Search.{every_elim}
use Rattle.model.proofs.Truth.{and_left, and_right, and_intro, clash, false_of}
use Rattle.sperner.specs.Antichains.{MinimalAntichain, ShortFormsFit}
use Rattle.sperner.proofs.Sizes.{Apart}
use Rattle.sperner.proofs.Layers.{twelve_names}
use Rattle.sperner.proofs.Families.{not_inside, sperners_bound, listed_antichain}

minimal_apart : (n : ℕ) (f : ℕ → Bool) → Apart n (minimal n f)
unfolding minimal
minimal_apart n f b c hb hc eb ec =
    not_inside n b c
    (false_of (proper_subset n b c) (λ p.
    clash (and_intro p (and_left (f b) (every (λ d. not (proper_subset n d b && f d)) (2 ^ n)) eb))
    (not-true (proper_subset n b c && f b)
    (every_elim (λ d. not (proper_subset n d c && f d)) (2 ^ n) (and_right (f c) (every (λ d. not (proper_subset n d c && f d)) (2 ^ n)) ec) b hb))))

pub minimal_antichain : MinimalAntichain
minimal_antichain n f = listed_antichain n (minimal n f) (minimal_apart n f)

-- one side takes a count and two bytes for each
length-listed : (n : ℕ) (f : ℕ → Bool) → length (listed n f) ≤ 2 + 2 * largest_layer n
unfolding listed
length-listed n f =
    omega (arith, length_pairs (those (minimal n f) 0 (2 ^ n)), sperners_bound n (those (minimal n f) 0 (2 ^ n)) (minimal_antichain n f))

pub listed_few : (n : ℕ) (f : ℕ → Bool) → n ≤ 12 → length (listed n f) ≤ 1850
listed_few n f h = omega (arith, length-listed n f, twelve_names.fewer n h)

pub short_forms_fit : ShortFormsFit
short_forms_fit = record {
  fits = fits;
  twelve = omega (arith, twelve_names.twelve);
  fewer = λ n h. omega (arith, twelve_names.fewer n h);
}
  where
    fits : (n : ℕ) (f : Marks) → length (short_form n f) ≤ room_for n
    fits n f = unfold short_form in rw length-append (omega (arith, length-listed n (f confidentiality), length-listed n (f integrity)))

-- so a length that is answered fits the least buffer, and the figure of an answer to C
pub written_few : (n : ℕ) (term buffer : List ℕ) (k : ℕ) → (shorten n term buffer).answer ≡ Written k → k ≤ 3700
unfolding shorten short_form_of
written_few n term buffer k = go (job_size n) (leb 3700 (length buffer)) (read_term n term) refl
  where
    go : (a b : Bool) (r : Reading Term) → job_size n ≡ a
        → (written_front (require a 7 (require b 8 (and_then r (λ t. accepted (short_form n (held t)))))) buffer).answer ≡ Written k → k ≤ 3700
    go false b r h e = absurd (let z : ◌≡◌ {A = ℕ} 0 1 = cc in omega arith)
    go true false r h e = absurd (let z : ◌≡◌ {A = ℕ} 0 1 = cc in omega arith)
    go true true (refused q) h e = absurd (let z : ◌≡◌ {A = ℕ} 0 1 = cc in omega arith)
    go true true (accepted t) h e =
        let l : length (short_form n (held t)) ≡ k = cc in
        omega (arith, l, short_forms_fit.fits n (held t), short_forms_fit.fewer n (leb-true n 12 (and_right (leb 1 n) (leb n 12) h)))

-- What it says that a text was read, or a term written (document 02, K1). Assumes nothing.
use mathlib.Core.Path.{◌≡◌, refl, ap, ◌∙◌}
use Prim.Native.Nat.{ℕ, ◌≤◌}
use native.Mathlib.Omega.{arith}
use mathlib.Core.Bool.{true, ◌&&◌}
use mathlib.Core.List.{List, [], ◌∷◌, reverse}
use lib.Dec.{eqb, leb}
use lib.ListN.{length}
use borrow.Author.Tests.{leb-true}
use Rattle.model.specs.Readings.{accepted, require}
use Rattle.model.specs.Terms.{Term, codes, job_size, read_term}
use Rattle.model.specs.Answers.{Written}
use Rattle.model.specs.Texts.{Tree, flat, term, fewest}
use Rattle.model.specs.Notation.{Back, ended, no_text, read_back, whole_text, text_length, text_codes, term_text, read_text, write_term}
use Rattle.model.proofs.Accepted.{accepted_same, require_accepted, then_accepted}
use Rattle.model.proofs.Reading.{accepted_codes}
use Rattle.model.proofs.Bracketed.{fewest_long}
use Rattle.model.proofs.Outcomes.{front_bytes}

-- the tree of a whole text
pub record WholeTree (b : Back) (cs : List ℕ) : Type 0 where
  pub tree : Tree
  pub read : b ≡ ended tree []
  pub says : codes (term tree) ≡ cs

whole_tree : (b : Back) (cs : List ℕ) → whole_text b ≡ accepted cs → WholeTree b cs
whole_tree (ended w []) cs e = record { tree = w; read = refl; says = accepted_same e }
whole_tree (ended w (c ∷ left)) cs e = absurd (let z : ◌≡◌ {A = ℕ} 0 1 = cc in omega arith)
whole_tree no_text cs e = absurd (let z : ◌≡◌ {A = ℕ} 0 1 = cc in omega arith)

pub record TextRead (n : ℕ) (text : List ℕ) (size : ℕ) (cs : List ℕ) : Type 0 where
  pub names : job_size n ≡ true
  pub fits : (text_length (length text) && eqb size 64) ≡ true
  pub whole : WholeTree (read_back n 2 (reverse text)) cs
  pub few : length cs ≤ 64

pub text_read : (n : ℕ) (text : List ℕ) (size : ℕ) (cs : List ℕ) → text_codes n text size ≡ accepted cs → TextRead n text size cs
unfolding text_codes
text_read n text size cs e =
    let a = require_accepted (job_size n) 7 _ cs e in
    let b = require_accepted (text_length (length text) && eqb size 64) 81 _ cs a.1 in
    let w = then_accepted (whole_text (read_back n 2 (reverse text))) (λ (ds : List ℕ). require (leb (length ds) 64) 83 (accepted ds)) cs b.1 in
    let f = require_accepted (leb (length w.value) 64) 83 (accepted w.value) cs w.then in
    let same : w.value ≡ cs = accepted_same f.1 in
    record {
      names = a.0;
      fits = b.0;
      whole = whole_tree (read_back n 2 (reverse text)) cs (w.was ∙ ap accepted same);
      few = rw (← same) (leb-true _ _ f.0);
    }

pub record TermWritten (n : ℕ) (bytes : List ℕ) (size : ℕ) (text : List ℕ) : Type 0 where
  pub names : job_size n ≡ true
  pub fits : eqb size 256 ≡ true
  pub of : Term
  pub read : read_term n bytes ≡ accepted of
  pub printed : flat (fewest of) ≡ text

pub term_written : (n : ℕ) (bytes : List ℕ) (size : ℕ) (text : List ℕ) → term_text n bytes size ≡ accepted text → TermWritten n bytes size text
unfolding term_text
term_written n bytes size text e =
    let a = require_accepted (job_size n) 7 _ text e in
    let b = require_accepted (eqb size 256) 81 _ text a.1 in
    let t = then_accepted (read_term n bytes) (λ (u : Term). accepted (flat (fewest u))) text b.1 in
    record { names = a.0; fits = b.0; of = t.value; read = t.was; printed = accepted_same t.then }

-- the text of an accepted term is short
pub accepted_long : (n : ℕ) (bytes : List ℕ) (t : Term) → read_term n bytes ≡ accepted t → length (flat (fewest t)) ≤ 190
accepted_long n bytes t e =
    let a = (accepted_codes n bytes t).0 e in
    let l : length (codes t) ≤ 64 = rw a.0 at a.2 in
    omega (arith, fewest_long t)

-- how many bytes the two calls write
pub text_few : (n : ℕ) (text buffer : List ℕ) (k : ℕ) → (read_text n text buffer).answer ≡ Written k → k ≤ 64
unfolding read_text
text_few n text buffer k e =
    let f = front_bytes (text_codes n text (length buffer)) buffer k e in
    rw (← f.size) (text_read n text (length buffer) f.bytes f.was).few

pub term_few : (n : ℕ) (bytes buffer : List ℕ) (k : ℕ) → (write_term n bytes buffer).answer ≡ Written k → k ≤ 190
unfolding write_term
term_few n bytes buffer k e =
    let f = front_bytes (term_text n bytes (length buffer)) buffer k e in
    let w = term_written n bytes (length buffer) f.bytes f.was in
    rw (← f.size, ← w.printed) (accepted_long n bytes w.of w.read)

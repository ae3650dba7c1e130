-- What the bytes at a place stand for, by the code there, and the place after it. Assumes nothing.
use mathlib.Core.Path.{◌≡◌, refl, sym, ap, ◌∙◌}
use mathlib.Core.Bool.{Bool, true, false, cond, ◌&&◌}
use mathlib.Core.List.{List}
use Prim.Native.Nat.{ℕ, ◌+◌, ◌≤◌, ◌<◌}
use native.Mathlib.Omega.{arith}
use borrow.Author.Tests.{eqb-true, ltb-true}
use lib.Dec.{eqb, ltb}
use lib.ListN.{length, drop, get_or}
use lib.Seq.{drop-drop}
use Rattle.std.specs.Prelude.{Some, None}
use Rattle.model.specs.Sides.{Side, confidentiality, integrity}
use Rattle.model.specs.Terms.{Term, name, top, bottom, conj, disj, project, Code, whole, one, two, project_code, code_of}
use Rattle.model.proofs.Truth.{clash}
use Rattle.model.proofs.Reading.{code_name, code_project}
use Rattle.terms.specs.declared.Joiner.{Joiner}
use Rattle.terms.specs.declared.Joiner.TheVariants.{Both, Either}
use Rattle.terms.specs.Joiners.{joiner_at}
use Rattle.words.specs.declared.Side.{Side as CodeSide}
use Rattle.words.specs.declared.Side.TheVariants.{See, Change}
use Rattle.words.specs.AnyBytes.{Taken, taken, term_in, take_parts}
use Rattle.words.specs.FourWords.{side_of}
use Rattle.words.proofs.AnyBytes.{taken_end, taken_at}
use Rattle.words.proofs.Steps.{joiner_both, joiner_either}
use Rattle.words.specs.declared.Row.{Row}
use Rattle.tables.specs.Filling.{Holding, end_of, name_at, side_at, same_side, two_of}

-- the code of a side
side_see : (c : ℕ) → side_at c ≡ Some See → c ≡ 0x40
side_see c e = by (eqb c 0x40) (eqb c 0x41) refl e
  where
    by : (a b : Bool) → eqb c 0x40 ≡ a → cond a (Some See) (cond b (Some Change) None) ≡ Some See → c ≡ 0x40
    by true b p e = eqb-true c 0x40 p
    by false true p e = cc
    by false false p e = cc

side_change : (c : ℕ) → side_at c ≡ Some Change → c ≡ 0x41
side_change c e = by (eqb c 0x40) (eqb c 0x41) refl e
  where
    by : (a b : Bool) → eqb c 0x41 ≡ b → cond a (Some See) (cond b (Some Change) None) ≡ Some Change → c ≡ 0x41
    by true b q e = cc
    by false true q e = eqb-true c 0x41 q
    by false false q e = cc

-- the term at a place, and where it ends
pub record At (bytes : List ℕ) (at : ℕ) (term : Term) (end : ℕ) : Type 0 where
  pub is : term_in (drop at bytes) ≡ term
  pub ends : end_of bytes at ≡ end

by_taken : (bytes : List ℕ) (at : ℕ) (t : Taken) (end : ℕ) → taken (drop at bytes) ≡ t → at + t.size ≡ end → At bytes at t.term end
by_taken bytes at t end e f = record { is = ap (λ (x : Taken). x.term) e; ends = ap (λ (x : Taken). at + x.size) e ∙ f }

pub at_end : (bytes : List ℕ) (at : ℕ) → length bytes ≤ at → At bytes at top at
at_end bytes at h = by_taken bytes at (record { term = top; size = 0 }) at (taken_end bytes at h) (omega arith)

module _ (bytes : List ℕ) (at : ℕ) (h : at < length bytes) where
  by_code : (m : Code) (end : ℕ) → code_of 12 (get_or bytes at 0) ≡ m → at + (take_parts taken m (drop (at + 1) bytes)).size ≡ end → At bytes at (take_parts taken m (drop (at + 1) bytes)).term end
  by_code m end e f = by_taken bytes at (take_parts taken m (drop (at + 1) bytes)) end (taken_at bytes at h m e) f

  pub at_name : get_or bytes at 0 < 12 → At bytes at (name (get_or bytes at 0)) (at + 1)
  at_name l = by_code (whole (name (get_or bytes at 0))) (at + 1) (code_name 12 (get_or bytes at 0) l l) refl

  pub at_top : get_or bytes at 0 ≡ 0x20 → At bytes at top (at + 1)
  unfolding code_of
  at_top e = by_code (whole top) (at + 1) (ap (code_of 12) e) refl

  pub at_bottom : get_or bytes at 0 ≡ 0x21 → At bytes at bottom (at + 1)
  unfolding code_of
  at_bottom e = by_code (whole bottom) (at + 1) (ap (code_of 12) e) refl

  pub at_project : (side : Side) → get_or bytes at 0 ≡ project_code side → At bytes at (project side (term_in (drop (at + 1) bytes))) (end_of bytes (at + 1))
  at_project side e = by_code (one (project side)) (end_of bytes (at + 1)) (ap (code_of 12) e ∙ code_project 12 side) (omega arith)

  at_both : (f : Term → Term → Term) → code_of 12 (get_or bytes at 0) ≡ two f
      → At bytes at (f (term_in (drop (at + 1) bytes)) (term_in (drop (end_of bytes (at + 1)) bytes))) (end_of bytes (end_of bytes (at + 1)))
  at_both f e =
      let first = taken (drop (at + 1) bytes) in
      let seam : drop first.size (drop (at + 1) bytes) ≡ drop (end_of bytes (at + 1)) bytes = drop-drop first.size (at + 1) bytes in
      rw seam at (by_code (two f) (at + 1 + first.size + (taken (drop first.size (drop (at + 1) bytes))).size) e (omega arith))

  pub at_joined : (j : Joiner) → joiner_at (get_or bytes at 0) ≡ Some j
      → At bytes at (two_of j (term_in (drop (at + 1) bytes)) (term_in (drop (end_of bytes (at + 1)) bytes))) (end_of bytes (end_of bytes (at + 1)))
  unfolding code_of
  at_joined Both e = at_both conj (ap (code_of 12) (joiner_both (get_or bytes at 0) e))
  at_joined Either e = at_both disj (ap (code_of 12) (joiner_either (get_or bytes at 0) e))

  pub at_side : (of : CodeSide) → side_at (get_or bytes at 0) ≡ Some of → At bytes at (project (side_of of) (term_in (drop (at + 1) bytes))) (end_of bytes (at + 1))
  at_side See e = at_project confidentiality (side_see (get_or bytes at 0) e)
  at_side Change e = at_project integrity (side_change (get_or bytes at 0) e)

-- a name that is found at a place
pub at_found : (bytes : List ℕ) (at i : ℕ) → name_at bytes at ≡ Some i → At bytes at (name i) (at + 1)
at_found bytes at i e = by (ltb at (length bytes)) (ltb (get_or bytes at 0) 12) refl refl e
  where
    by : (a b : Bool) → ltb at (length bytes) ≡ a → ltb (get_or bytes at 0) 12 ≡ b → cond (a && b) (Some (get_or bytes at 0)) None ≡ Some i → At bytes at (name i) (at + 1)
    by true true p q f =
        let same : get_or bytes at 0 ≡ i = cc in
        rw same at (at_name bytes at (ltb-true at (length bytes) p) (ltb-true (get_or bytes at 0) 12 q))
    by true false p q f = cc
    by false b p q f = cc

-- rows of the term at a place, and of two terms one after the other
module _ {s : Side} {sided : Bool} {count : ℕ} {before after : List Row} where
  pub held_at : {bytes : List ℕ} {at end : ℕ} {term : Term} → At bytes at term end → Holding term s sided count before after → Holding (term_in (drop at bytes)) s sided count before after
  held_at d h = rw d.is h

  pub two_first : (bytes : List ℕ) (at : ℕ) {end : ℕ} {p : Term} (j : Joiner) → At bytes at p end → Holding (two_of j p (term_in (drop end bytes))) s sided count before after
      → Holding (two_of j (term_in (drop at bytes)) (term_in (drop (end_of bytes at) bytes))) s sided count before after
  two_first bytes at j d h = rw (d.is, d.ends) h

  pub two_last : (bytes : List ℕ) (at : ℕ) {end m : ℕ} (p : Term) {q : Term} (j : Joiner) → At bytes m q end → m ≡ end_of bytes at → Holding (two_of j p q) s sided count before after
      → Holding (two_of j p (term_in (drop (end_of bytes at) bytes))) s sided count before after
  two_last bytes at p j d e h = rw (sym e, d.is) h

-- which of two sides
pub sides_same : (a b : CodeSide) → same_side a b ≡ true → side_of a ≡ side_of b
sides_same See See e = refl
sides_same See Change e = absurd (clash e refl)
sides_same Change See e = absurd (clash e refl)
sides_same Change Change e = refl

pub sides_other : (a b : CodeSide) → same_side a b ≡ false → side_of a ≡ side_of b → ⊥
sides_other See See e q = clash refl e
sides_other See Change e q = cc
sides_other Change See e q = cc
sides_other Change Change e q = clash refl e

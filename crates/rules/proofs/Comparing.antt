-- Lists compared byte for byte, part by part. Assumes nothing.
use Rattle.std.proofs.Common.{◌≡◌, ◌∙◌, ℕ, ◌+◌, Bool, true, false, ◌&&◌, List, [], ◌∷◌, ◌++◌, length, take, drop, refl, sym, ap, nat_eq}
use mathlib.Core.Bool.{and_assoc}
use Rattle.std.specs.Borrow.{Bor}
use Rattle.std.specs.Option.{MatchOption}
use Rattle.std.specs.Prelude.{Option, None, Some}
use Rattle.std.specs.Cmp.Lexicographic.{pointwise}
use Rattle.model.specs.Bytes.{same}

-- what `==` of two slices computes
pub same_pointwise : (l m : List ℕ) → pointwise nat_eq l m ≡ same l m
unfolding same
same_pointwise [] [] = refl
same_pointwise [] (y ∷ m) = refl
same_pointwise (x ∷ l) [] = refl
same_pointwise (x ∷ l) (y ∷ m) = ap (λ r. nat_eq x y && r) (same_pointwise l m)

-- a list compared with two that follow each other: its front with the first, the rest with the second
pub same_parts : (l a b : List ℕ) → same l (a ++ b) ≡ (same (take (length a) l) a && same (drop (length a) l) b)
unfolding same
same_parts l [] b = refl
same_parts [] (x ∷ a) b = refl
same_parts (y ∷ l) (x ∷ a) b = rw (same_parts l a b, and_assoc)

-- what is left behind a front, if it is there, compared with a part
abbrev pub Stripped : List ℕ → List ℕ → Option (Bor (List ℕ)) → Type 0
Stripped l a r = MatchOption r (pointwise nat_eq (take (length a) l) a ≡ false) (λ x. (pointwise nat_eq (take (length a) l) a ≡ true) × (x.now ≡ drop (length a) l) × (length x.now + length a ≡ length l))

-- then the whole is compared with the front and the part
pub stripped : (l a b : List ℕ) (r : Option (Bor (List ℕ))) → Stripped l a r → (answer : Bool) (P : Bor (List ℕ) → Type 0) → MatchOption r (answer ≡ false) P
    → ((x : Bor (List ℕ)) → P x → answer ≡ same x.now b) → answer ≡ same l (a ++ b)
stripped l a b None none answer P e h = e ∙ sym (same_parts l a b ∙ rw (sym (same_pointwise (take (length a) l) a) ∙ none))
stripped l a b (Some x) some answer P e h = h x e ∙ sym (same_parts l a b ∙ rw (sym (same_pointwise (take (length a) l) a) ∙ some.0, ← some.1))

-- two fronts one behind the other, and then a part
pub stripped_twice : (l a b m : List ℕ) (r : Option (Bor (List ℕ))) → Stripped l a r → (q : Option (Bor (List ℕ))) (Q : Bor (List ℕ) → Type 0) → MatchOption r (q ≡ None) Q
    → ((x : Bor (List ℕ)) → Q x → Stripped x.now b q) → (answer : Bool) (P : Bor (List ℕ) → Type 0) → MatchOption q (answer ≡ false) P
    → ((x : Bor (List ℕ)) → P x → answer ≡ same x.now m) → answer ≡ same l (a ++ (b ++ m))
stripped_twice l a b m None none q Q e inner answer P f h =
    stripped l a (b ++ m) None none answer (λ x. answer ≡ same x.now (b ++ m)) (rw e at f) (λ x g. g)
stripped_twice l a b m (Some x) some q Q e inner answer P f h =
    stripped l a (b ++ m) (Some x) some answer (λ x. answer ≡ same x.now (b ++ m)) (stripped x.now b m q (inner x e) answer P f h) (λ x g. g)

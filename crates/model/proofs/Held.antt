-- Where a term is held, kind by kind, as document 01 lists it. Assumes nothing.
use mathlib.Core.Path.{◌≡◌, refl}
use Prim.Native.Nat.{ℕ, suc}
use mathlib.Core.Bool.{Bool, true, false, cond, ◌&&◌, ◌||◌}
use lib.Dec.{leb}
use Rattle.model.specs.Sides.{Side, confidentiality, integrity}
use Rattle.model.specs.Terms.{Term, top, bottom, conj, disj, project, quorum, Terms, nil, cons, held, held_count}

pub top_never : (s : Side) (c : ℕ) → held top s c ≡ false
unfolding held
top_never s c = refl

pub bottom_always : (s : Side) (c : ℕ) → held bottom s c ≡ true
unfolding held
bottom_always s c = refl

pub conj_held : (p q : Term) (s : Side) (c : ℕ) → held (conj p q) s c ≡ (held p s c && held q s c)
unfolding held
conj_held p q s c = refl

pub disj_held : (p q : Term) (s : Side) (c : ℕ) → held (disj p q) s c ≡ (held p s c || held q s c)
unfolding held
disj_held p q s c = refl

-- A projection is held as its part is on its own side, and always on the other: what is so of both is so of it.
pub project_held : (s t : Side) (c : ℕ) (P : (Term → Bool) → Type 0) → P (λ p. held p t c) → P (λ p. true) → P (λ p. held (project s p) t c)
unfolding held
project_held confidentiality confidentiality c P own off = own
project_held confidentiality integrity c P own off = off
project_held integrity confidentiality c P own off = off
project_held integrity integrity c P own off = own

-- A quorum is held on a side where at least k of its parts are held there, counted by place.
pub quorum_held : (k : ℕ) (ts : Terms) (s : Side) (c : ℕ) → held (quorum k ts) s c ≡ leb k (held_count ts s c)
unfolding held
quorum_held k ts s c = refl

pub count_none : (s : Side) (c : ℕ) → held_count nil s c ≡ 0
unfolding held
count_none s c = refl

pub count_part : (t : Term) (ts : Terms) (s : Side) (c : ℕ) → held_count (cons t ts) s c ≡ cond (held t s c) (suc (held_count ts s c)) (held_count ts s c)
unfolding held
count_part t ts s c = refl

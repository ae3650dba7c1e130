-- FLAM's principals (source document 000, Figure 4.1), which have no quorums. Assumes nothing: these are definitions.
use Rattle.std.specs.Prelude.{ℕ, ◌<◌, true, false, ◌&&◌, ◌||◌}
use Rattle.model.specs.Sides.{Side, confidentiality, integrity}
use Rattle.model.specs.Coalitions.{member, Marks}

pub data Principal : Type 0 where
  name : ℕ → Principal
  top : Principal
  bottom : Principal
  conj : Principal → Principal → Principal
  disj : Principal → Principal → Principal
  project : Side → Principal → Principal

-- at coalition c the principal is held on the side, as a term is
unfoldable pub held_by : Principal → Marks
held_by (name i) s c = member i c
held_by top s c = false
held_by bottom s c = true
held_by (conj p q) s c = held_by p s c && held_by q s c
held_by (disj p q) s c = held_by p s c || held_by q s c
held_by (project confidentiality p) confidentiality c = held_by p confidentiality c
held_by (project confidentiality p) integrity c = true
held_by (project integrity p) confidentiality c = true
held_by (project integrity p) integrity c = held_by p integrity c

-- every name of the principal is 00 to 0B and below n, as a term's is
unfoldable pub Named : ℕ → Principal → Type 0
Named n (name i) = (i < 12) × (i < n)
Named n top = Unit {0}
Named n bottom = Unit {0}
Named n (conj p q) = Named n p × Named n q
Named n (disj p q) = Named n p × Named n q
Named n (project s p) = Named n p

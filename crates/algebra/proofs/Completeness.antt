-- What the coalitions say, the algebra derives: a decision tree over the names, one cut for each.
use mathlib.Core.Path.{◌≡◌, refl, sym, ◌∙◌}
use mathlib.Core.Logic.{◌⊎◌, inl, inr}
use mathlib.Core.Bool.{Bool, true, false, ◌&&◌, ◌||◌, true≢false, false≢true}
use mathlib.Core.List.{List, [], ◌∷◌, Memᴰ}
use Prim.Native.Nat.{ℕ, zero, suc, ◌+◌, ◌<◌}
use native.Mathlib.Nat.{add-zero, add-suc, suc-add, zero-add}
use native.Mathlib.Omega.{arith}
use lib.ListN.{length}
use Rattle.model.specs.Sides.{Side, confidentiality, integrity}
use Rattle.model.specs.Coalitions.{implies}
use Rattle.model.specs.Terms.{held}
use Rattle.model.specs.Grants.{Grant, sound, sound_of}
use Rattle.algebra.specs.Principals.{Principal, name, top, bottom, conj, disj, project, held_by, Named}
use Rattle.algebra.specs.Meaning.{meaning}
use Rattle.algebra.specs.Algebra.{ActsFor, bot_r, top_l, self, proj, proj_r, conj_l₁, conj_l₂, conj_r, disj_l, disj_r₁, disj_r₂, then, conj_project, disj_project, crossed, grant, GrantsBelow, Carries}
use Rattle.model.proofs.Truth.{and_left, and_right, or_elim}
use Rattle.algebra.proofs.Meanings.{meaning_held, meaning_named}
use Rattle.algebra.proofs.Principals.{twice, by_sides, cut}
use Rattle.algebra.proofs.Coalitions.{coalition, bit_at, coalition_below, member-bit}

and-false : (a b : Bool) → a && b ≡ false → (a ≡ false) ⊎ (b ≡ false)
and-false true b h = inr h
and-false false b h = inl refl

or-false : (a b : Bool) → a || b ≡ false → (a ≡ false) × (b ≡ false)
or-false true b h = absurd (true≢false h)
or-false false b h = (refl, h)

implies_false : (a b : Bool) → implies a b ≡ false → (a ≡ true) × (b ≡ false)
implies_false true b h = (refl, h)
implies_false false b h = absurd (true≢false h)

-- of the names j, j + 1, .., whose bits are bs: all the members
abbrev members : ℕ → List Bool → Principal
members j [] = bottom
members j (true ∷ bs) = conj (name j) (members (suc j) bs)
members j (false ∷ bs) = members (suc j) bs

-- any of the others
abbrev absent : ℕ → List Bool → Principal
absent j [] = top
absent j (true ∷ bs) = absent (suc j) bs
absent j (false ∷ bs) = disj (name j) (absent (suc j) bs)

module _ {G : List Grant} where
  has : (j : ℕ) (bs : List Bool) (i : ℕ) → bit_at bs i ≡ true → ActsFor G (members j bs) (name (j + i))
  has j [] i h = absurd (false≢true h)
  has j (true ∷ bs) zero h = rw add-zero (conj_l₁ self)
  has j (false ∷ bs) zero h = absurd (false≢true h)
  has j (true ∷ bs) (suc i) h = rw (add-suc, ← suc-add) (conj_l₂ (has (suc j) bs i h))
  has j (false ∷ bs) (suc i) h = rw (add-suc, ← suc-add) (has (suc j) bs i h)

  lacks : (j : ℕ) (bs : List Bool) (i : ℕ) → i < length bs → bit_at bs i ≡ false → ActsFor G (name (j + i)) (absent j bs)
  lacks j [] i l h = absurd (omega arith)
  lacks j (true ∷ bs) zero l h = absurd (true≢false h)
  lacks j (false ∷ bs) zero l h = rw add-zero (disj_r₁ self)
  lacks j (true ∷ bs) (suc i) l h = rw (add-suc, ← suc-add) (lacks (suc j) bs i (omega arith) h)
  lacks j (false ∷ bs) (suc i) l h = rw (add-suc, ← suc-add) (disj_r₂ (lacks (suc j) bs i (omega arith) h))

  module _ (bs : List Bool) where
    -- on each side a coalition's members, together, act for what it holds
    members_act : (s : Side) (t : Principal) → Named (length bs) t → held_by t s (coalition bs) ≡ true → ActsFor G (project s (members 0 bs)) (project s t)
    unfolding held_by Named
    members_act s (name i) l h = proj s (rw zero-add at (has 0 bs i (sym (member-bit bs i l.1) ∙ h)))
    members_act s top l h = absurd (false≢true h)
    members_act s bottom l h = proj s bot_r
    members_act s (conj p q) l h =
        then
        (conj_r
        (members_act s p l.0 (and_left (held_by p s (coalition bs)) (held_by q s (coalition bs)) h))
        (members_act s q l.1 (and_right (held_by p s (coalition bs)) (held_by q s (coalition bs)) h)))
        (conj_project s p q)
    members_act s (disj p q) l h =
        or_elim (held_by p s (coalition bs)) (held_by q s (coalition bs))
        (λ e. then (members_act s p l.0 e) (proj s (disj_r₁ self)))
        (λ e. then (members_act s q l.1 e) (proj s (disj_r₂ self)))
        h
    members_act confidentiality (project confidentiality p) l h = then (members_act confidentiality p l h) (proj_r confidentiality)
    members_act integrity (project confidentiality p) l h = then bot_r (crossed confidentiality p)
    members_act confidentiality (project integrity p) l h = then bot_r (crossed integrity p)
    members_act integrity (project integrity p) l h = then (members_act integrity p l h) (proj_r integrity)

    -- what it does not hold acts for any of the absent
    absent_acted : (s : Side) (t : Principal) → Named (length bs) t → held_by t s (coalition bs) ≡ false → ActsFor G (project s t) (project s (absent 0 bs))
    unfolding held_by Named
    absent_acted s (name i) l h = proj s (rw zero-add at (lacks 0 bs i l.1 (sym (member-bit bs i l.1) ∙ h)))
    absent_acted s top l h = proj s top_l
    absent_acted s bottom l h = absurd (true≢false h)
    absent_acted s (conj p q) l h = elim (and-false (held_by p s (coalition bs)) (held_by q s (coalition bs)) h) [
      | inl e ↦ then (proj s (conj_l₁ self)) (absent_acted s p l.0 e)
      | inr e ↦ then (proj s (conj_l₂ self)) (absent_acted s q l.1 e)
    ]
    absent_acted s (disj p q) l h =
        let e = or-false (held_by p s (coalition bs)) (held_by q s (coalition bs)) h in
        then (disj_project s p q) (disj_l (absent_acted s p l.0 e.0) (absent_acted s q l.1 e.1))
    absent_acted confidentiality (project confidentiality p) l h = then (proj confidentiality (absent_acted confidentiality p l h)) (twice confidentiality (absent 0 bs))
    absent_acted integrity (project confidentiality p) l h = absurd (true≢false h)
    absent_acted confidentiality (project integrity p) l h = absurd (true≢false h)
    absent_acted integrity (project integrity p) l h = then (proj integrity (absent_acted integrity p l h)) (twice integrity (absent 0 bs))

-- a grant that a coalition breaks
record Broken (G : List Grant) (s : Side) (c : ℕ) : Type 0 where
  broken : Grant
  among : Memᴰ broken G
  holds : held broken.p s c ≡ true
  fails : held broken.q s c ≡ false

-- where a coalition is not sound, it breaks a grant
unsound : (G : List Grant) (s : Side) (c : ℕ) → sound_of G s c ≡ false → Broken G s c
unfolding sound
unsound [] s c h = absurd (true≢false h)
unsound (g ∷ G) s c h = elim (and-false (implies (held g.p s c) (held g.q s c)) (sound_of G s c) h) [
  | inl e ↦ let f = implies_false (held g.p s c) (held g.q s c) e in
      record { broken = g; among = Memᴰ.head refl; holds = f.0; fails = f.1 }
  | inr e ↦ let b = unsound G s c e in
      record { broken = b.broken; among = Memᴰ.tail b.among; holds = b.holds; fails = b.fails }
]

module _ (n : ℕ) (G : List Grant) (fit : GrantsBelow n G) (s : Side) (p q : Principal) (pn : Named n p) (qn : Named n q) (says : Carries n G s (held_by p) (held_by q)) where
  -- all names are decided
  leaf : (bs : List Bool) → length bs ≡ n → ActsFor G (conj (project s (members 0 bs)) (project s p)) (disj (project s (absent 0 bs)) (project s q))
  leaf bs e = by (held_by p s (coalition bs)) refl (sound_of G s (coalition bs)) refl
    where
      fits : (t : Principal) → Named n t → Named (length bs) t
      fits t l = rw e l

      broke : Broken G s (coalition bs) → ActsFor G (project s (members 0 bs)) (project s (absent 0 bs))
      broke b =
          let p = meaning b.broken.p in
          let q = meaning b.broken.q in
          let f = fit b.broken b.among in
          then (members_act bs s p (fits p (meaning_named n b.broken.p f.0)) (meaning_held b.broken.p s (coalition bs) ∙ b.holds))
          (then (proj s (grant b.among))
          (absent_acted bs s q (fits q (meaning_named n b.broken.q f.1)) (meaning_held b.broken.q s (coalition bs) ∙ b.fails)))

      by : (x : Bool) → held_by p s (coalition bs) ≡ x → (y : Bool) → sound_of G s (coalition bs) ≡ y
          → ActsFor G (conj (project s (members 0 bs)) (project s p)) (disj (project s (absent 0 bs)) (project s q))
      by false h y k = conj_l₂ (disj_r₁ (absent_acted bs s p (fits p pn) h))
      by true h true k = conj_l₁ (disj_r₂ (members_act bs s q (fits q qn) (says (coalition bs) (rw e at (coalition_below bs)) k h)))
      by true h false k = conj_l₁ (disj_r₁ (broke (unsound G s (coalition bs) k)))

  -- the names from j on are decided; those below are decided by a cut each
  tree : (j : ℕ) (bs : List Bool) → j + length bs ≡ n → ActsFor G (conj (project s (members j bs)) (project s p)) (disj (project s (absent j bs)) (project s q))
  tree zero bs e = leaf bs (omega arith)
  tree (suc j) bs e =
      cut {a = project s (name j)}
      (then
      (conj_r (then (conj_r (conj_l₂ self) (conj_l₁ (conj_l₁ self))) (conj_project s (name j) (members (suc j) bs))) (conj_l₁ (conj_l₂ self)))
      (tree j (true ∷ bs) (omega arith)))
      (then
      (tree j (false ∷ bs) (omega arith))
      (disj_l
      (then (disj_project s (name j) (absent (suc j) bs)) (disj_l (disj_r₁ self) (disj_r₂ (disj_r₁ self))))
      (disj_r₂ (disj_r₂ self))))

  -- one side, on its own
  pub on_side_lem : ActsFor G (project s p) (project s q)
  on_side_lem = then (conj_r (proj s bot_r) self) (then (tree n [] (omega arith)) (disj_l (proj s top_l) self))

pub completeness : (n : ℕ) (G : List Grant) (p q : Principal) → GrantsBelow n G → Named n p → Named n q → ((s : Side) → Carries n G s (held_by p) (held_by q)) → ActsFor G p q
completeness n G p q fit pn qn says = by_sides (λ s. on_side_lem n G fit s p q pn qn (says s))

-- What a code is on paper, by what it asks for: laws of the term that codes stand for. Assumes nothing.
use Prim.Native.Nat.{ℕ, ◌+◌, ◌-◌}
use mathlib.Core.Path.{◌≡◌, refl, sym, ap, ◌∙◌}
use mathlib.Core.Bool.{Bool, true, false, cond}
use mathlib.Core.List.{List, [], ◌∷◌, ◌++◌}
use lib.Dec.{eqb, ltb}
use lib.ListN.{drop}
use lib.Seq.{drop-drop}
use Rattle.model.specs.Terms.{Term, name, Code, whole, one, two, many, none, code_of}
use Rattle.model.specs.Texts.{joiner, join_rank, flat, rank, fewest}
use Rattle.model.proofs.Reading.{Right, code_right}
use Rattle.words.specs.AnyBytes.{Taken, no_code, take_parts, taken, term_in}
use Rattle.words.proofs.AnyBytes.{taken_step}
use Rattle.terms.specs.declared.Joiner.{Joiner}
use Rattle.terms.specs.Joiners.{kind}
use Rattle.writing.specs.Writing.{mark_of, within, after_term}
use Rattle.writing.specs.declared.Mark.{Mark}
use Rattle.writing.specs.declared.Mark.TheVariants.{Whole, Sign, Between, Quorum}

-- the mark shows what the code asks for
abbrev Shown : Mark → Code → Type 0
Shown (Whole c) (whole t) = (flat (fewest t) ≡ c ∷ []) × (rank (fewest t) ≡ 0)
Shown (Whole c) (one f) = ⊥
Shown (Whole c) (two f) = ⊥
Shown (Whole c) many = ⊥
Shown (Whole c) none = c ≡ 0x2A
Shown (Sign c) (whole t) = ⊥
Shown (Sign c) (one f) = (p : Term) → (flat (fewest (f p)) ≡ flat (within 0 p) ++ (c ∷ [])) × (rank (fewest (f p)) ≡ 0)
Shown (Sign c) (two f) = ⊥
Shown (Sign c) many = ⊥
Shown (Sign c) none = ⊥
Shown (Between j) (whole t) = ⊥
Shown (Between j) (one f) = ⊥
Shown (Between j) (two f) = (p q : Term) → (flat (fewest (f p q)) ≡ flat (within (join_rank (kind j)) p) ++ (joiner (kind j) ∷ flat (within (join_rank (kind j) - 1) q))) × (rank (fewest (f p q)) ≡ join_rank (kind j))
Shown (Between j) many = ⊥
Shown (Between j) none = ⊥
Shown Quorum (whole t) = ⊥
Shown Quorum (one f) = ⊥
Shown Quorum (two f) = ⊥
Shown Quorum many = Unit {0}
Shown Quorum none = ⊥

shown_cond : (b : Bool) (m k : Mark) (x y : Code) → Shown m x → Shown k y → Shown (cond b m k) (cond b x y)
shown_cond true m k x y p q = p
shown_cond false m k x y p q = q

code_shown : (c : ℕ) → Shown (mark_of c) (code_of 12 c)
unfolding mark_of code_of flat fewest rank
code_shown c =
    named (ltb c 12) _ _
    (shown_cond (eqb c 0x20) _ _ _ _ (refl, refl)
    (shown_cond (eqb c 0x21) _ _ _ _ (refl, refl)
    (shown_cond (eqb c 0x30) _ _ _ _ (λ p q. (refl, refl))
    (shown_cond (eqb c 0x31) _ _ _ _ (λ p q. (refl, refl))
    (shown_cond (eqb c 0x32) _ _ _ _ tt
    (shown_cond (eqb c 0x40) _ _ _ _ (λ p. (refl, refl)) (shown_cond (eqb c 0x41) _ _ _ _ (λ p. (refl, refl)) refl)))))))
  where
    named : (b : Bool) (m : Mark) (y : Code) → Shown m y → Shown (cond b (Whole (0x61 + c)) m) (cond b (cond b (whole (name c)) none) y)
    named true m y q = (refl, refl)
    named false m y q = q

-- ---- codes that begin with this one

module _ (code : ℕ) (codes : List ℕ) where
  -- one character
  pub record IsWhole (c : ℕ) : Type 0 where
    pub text : flat (fewest (term_in (code ∷ codes))) ≡ c ∷ []
    pub low : rank (fewest (term_in (code ∷ codes))) ≡ 0
    pub left : after_term (code ∷ codes) ≡ codes

  -- a part and a sign
  pub record IsSigned (c : ℕ) : Type 0 where
    pub text : flat (fewest (term_in (code ∷ codes))) ≡ flat (within 0 (term_in codes)) ++ (c ∷ [])
    pub low : rank (fewest (term_in (code ∷ codes))) ≡ 0
    pub left : after_term (code ∷ codes) ≡ after_term codes

  -- two parts and a joiner
  pub record IsJoined (c own under : ℕ) : Type 0 where
    pub text : flat (fewest (term_in (code ∷ codes))) ≡ flat (within own (term_in codes)) ++ (c ∷ flat (within under (term_in (after_term codes))))
    pub own_rank : rank (fewest (term_in (code ∷ codes))) ≡ own
    pub left : after_term (code ∷ codes) ≡ after_term (after_term codes)

  texts : {x y : Taken} → x ≡ y → flat (fewest x.term) ≡ flat (fewest y.term)
  texts e = ap (λ (x : Taken). flat (fewest x.term)) e

  ranks : {x y : Taken} → x ≡ y → rank (fewest x.term) ≡ rank (fewest y.term)
  ranks e = ap (λ (x : Taken). rank (fewest x.term)) e

  lefts : {x y : Taken} → x ≡ y → drop x.size (code ∷ codes) ≡ drop y.size (code ∷ codes)
  lefts e = ap (λ (x : Taken). drop x.size (code ∷ codes)) e

  is_whole : (c : ℕ) (x : Code) → Shown (Whole c) x → taken (code ∷ codes) ≡ take_parts taken x codes → IsWhole c
  unfolding flat fewest rank
  is_whole c (whole t) s e = record { text = texts e ∙ s.0; low = ranks e ∙ s.1; left = lefts e }
  is_whole c (one f) s e = absurd s
  is_whole c (two f) s e = absurd s
  is_whole c many s e = absurd s
  is_whole c none s e = record { text = texts e ∙ ap (λ (k : ℕ). k ∷ []) (sym s); low = ranks e; left = lefts e }

  is_signed : (c : ℕ) (x : Code) → Shown (Sign c) x → taken (code ∷ codes) ≡ take_parts taken x codes → IsSigned c
  is_signed c (whole t) s e = absurd s
  is_signed c (one f) s e = let k = s (term_in codes) in record { text = texts e ∙ k.0; low = ranks e ∙ k.1; left = lefts e }
  is_signed c (two f) s e = absurd s
  is_signed c many s e = absurd s
  is_signed c none s e = absurd s

  is_joined : (j : Joiner) (x : Code) → Shown (Between j) x → taken (code ∷ codes) ≡ take_parts taken x codes → IsJoined (joiner (kind j)) (join_rank (kind j)) (join_rank (kind j) - 1)
  is_joined j (whole t) s e = absurd s
  is_joined j (one g) s e = absurd s
  is_joined j (two g) s e =
      let k = s (term_in codes) (term_in (after_term codes)) in
      record { text = texts e ∙ k.0; own_rank = ranks e ∙ k.1; left = lefts e ∙ sym (drop-drop (taken (after_term codes)).size (taken codes).size codes) }
  is_joined j many s e = absurd s
  is_joined j none s e = absurd s

  pub whole_at : (c : ℕ) → mark_of code ≡ Whole c → IsWhole c
  whole_at c m = is_whole c (code_of 12 code) (rw m at (code_shown code)) (taken_step code codes)

  pub signed_at : (c : ℕ) → mark_of code ≡ Sign c → IsSigned c
  signed_at c m = is_signed c (code_of 12 code) (rw m at (code_shown code)) (taken_step code codes)

  pub joined_at : (j : Joiner) → mark_of code ≡ Between j → IsJoined (joiner (kind j)) (join_rank (kind j)) (join_rank (kind j) - 1)
  joined_at j m = is_joined j (code_of 12 code) (rw m at (code_shown code)) (taken_step code codes)

  -- a byte that is taken as no code stands for the strongest party
  pub none_at : taken (code ∷ codes) ≡ no_code → IsWhole 0x2A
  unfolding flat fewest rank
  none_at e = record { text = texts e; low = ranks e; left = lefts e }

-- only a quorum's code has its mark
pub quorum_code : (c : ℕ) → mark_of c ≡ Quorum → c ≡ 0x32
quorum_code c m = by (code_of 12 c) (code_right 12 c) (rw m at (code_shown c))
  where
    by : (x : Code) → Right 12 c x → Shown Quorum x → c ≡ 0x32
    by (whole t) h s = absurd s
    by (one f) h s = absurd s
    by (two f) h s = absurd s
    by many h s = h
    by none h s = absurd s

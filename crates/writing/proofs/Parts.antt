-- What the writer puts for a term, by its first code: the room for it, and a law for each return. Assumes nothing.
use Prim.Native.Nat.{ℕ, ◌+◌, ◌<◌, ◌≤◌}
use native.Mathlib.Omega.{arith}
use mathlib.Core.Path.{◌≡◌, refl, sym, ap, ◌∙◌}
use mathlib.Core.Bool.{Bool, true, false, cond}
use mathlib.Core.List.{List, [], ◌∷◌, ◌++◌, append_assoc, append-nil}
use lib.Dec.{leb}
use lib.ListN.{length, drop, length-drop}
use Rattle.std.proofs.lemmas.List.{nil_from_length}
use Rattle.model.specs.Texts.{Tree, bracket, flat, rank, at_most, fewest}
use Rattle.model.proofs.Bracketed.{at_most_low}
use Rattle.words.specs.AnyBytes.{Taken, taken, term_in}
use Rattle.words.proofs.AnyBytes.{taken_none}
use Rattle.writing.specs.Writing.{bracketed, within, State, state, wrote, after_term}
use Rattle.writing.proofs.Marks.{IsWhole, IsSigned, IsJoined}
use Rattle.writing.proofs.Putting.{wrote_both, room_after, front}

-- a text between its brackets, where it needs them
at_most_flat : (l : ℕ) (w : Tree) → flat (at_most l w) ≡ bracketed 0x28 (rank w) l ++ (flat w ++ bracketed 0x29 (rank w) l)
unfolding flat
at_most_flat l w = by (leb (rank w) l)
  where
    by : (b : Bool) → flat (cond b w (bracket w)) ≡ cond b [] (0x28 ∷ []) ++ (flat w ++ cond b [] (0x29 ∷ []))
    by true = sym (append-nil (flat w))
    by false = refl

-- what is of rank 0 needs none
pub atom_flat : (l : ℕ) (w : Tree) → rank w ≡ 0 → flat (at_most l w) ≡ flat w
atom_flat l w h = ap flat (at_most_low l w (omega arith))

none_text : (l : ℕ) → flat (within l (term_in [])) ≡ 0x2A ∷ []
unfolding flat fewest rank
none_text l = atom_flat l (fewest (term_in [])) (ap (λ (x : Taken). rank (fewest x.term)) taken_none) ∙ ap (λ (x : Taken). flat (fewest x.term)) taken_none

none_left : after_term [] ≡ []
none_left = ap (λ (x : Taken). drop x.size []) taken_none

-- no codes are left: the strongest party
module _ (before : State) (l : ℕ) (empty : length before.codes ≡ 0) (room : length before.written + length (flat (within l (term_in before.codes))) ≤ 192) where
  none : before.codes ≡ []
  none = nil_from_length before.codes empty

  pub none_room : length before.written < 192
  none_room = omega (arith, rw (none_text l) at (rw none at room))

  pub none_wrote : (after : State) → after ≡ wrote before before.codes (0x2A ∷ []) → after ≡ wrote before (after_term before.codes) (flat (within l (term_in before.codes)))
  none_wrote after p = p ∙ rw (none, none_text l, none_left) refl

-- the text of a code and what follows it
module _ (code : ℕ) (codes : List ℕ) (l : ℕ) where
  pub whole_text_lem : (c : ℕ) → IsWhole code codes c → flat (within l (term_in (code ∷ codes))) ≡ c ∷ []
  whole_text_lem c w = atom_flat l (fewest (term_in (code ∷ codes))) w.low ∙ w.text

  signed_text : (c : ℕ) → IsSigned code codes c → flat (within l (term_in (code ∷ codes))) ≡ flat (within 0 (term_in codes)) ++ (c ∷ [])
  signed_text c s = atom_flat l (fewest (term_in (code ∷ codes))) s.low ∙ s.text

  -- in brackets where it needs them
  joined_text : (c own under : ℕ) → IsJoined code codes c own under → flat (within l (term_in (code ∷ codes)))
      ≡ (((bracketed 0x28 own l ++ flat (within own (term_in codes))) ++ (c ∷ [])) ++ flat (within under (term_in (after_term codes)))) ++ bracketed 0x29 own l
  joined_text c own under j =
      let opened = bracketed 0x28 own l in
      let left = flat (within own (term_in codes)) in
      let right = flat (within under (term_in (after_term codes))) in
      let close = bracketed 0x29 own l in
      at_most_flat l (fewest (term_in (code ∷ codes)))
      ∙ rw (j.own_rank, j.text) (rw (append_assoc (opened ++ left) (c ∷ []) right, append_assoc opened left (c ∷ right), append_assoc opened (left ++ (c ∷ right)) close))

-- a code, and what follows it; the code is passed
module _ (code : ℕ) (codes written : List ℕ) (before : State) (begun : before ≡ state (code ∷ codes) written) (l : ℕ) (room : length before.written + length (flat (within l (term_in before.codes))) ≤ 192) where
  abbrev passed : State
  passed = state codes written

  abbrev text : List ℕ
  text = flat (within l (term_in (code ∷ codes)))

  abbrev Done : State → Type 0
  Done after = after ≡ wrote before (after_term before.codes) (flat (within l (term_in before.codes)))

  fits : (f : List ℕ) → text ≡ f → length written + length f ≤ 192
  fits f e = rw e at (rw begun at room)

  done : (after : State) (cs f : List ℕ) → after_term (code ∷ codes) ≡ cs → text ≡ f → after ≡ wrote passed cs f → Done after
  done after cs f d e p = p ∙ rw (begun, d, e) refl

  -- one character
  module _ (c : ℕ) (w : IsWhole code codes c) where
    pub whole_room : length written < 192
    whole_room = omega (arith, fits (c ∷ []) (whole_text_lem code codes l c w))

    pub whole_wrote : (after : State) → after ≡ wrote passed codes (c ∷ []) → Done after
    whole_wrote after p = done after codes (c ∷ []) w.left (whole_text_lem code codes l c w) p

  -- a part and a sign
  module _ (c : ℕ) (s : IsSigned code codes c) where
    abbrev part : List ℕ
    part = flat (within 0 (term_in codes))

    part_fits : length written + length (part ++ (c ∷ [])) ≤ 192
    part_fits = fits (part ++ (c ∷ [])) (signed_text code codes l c s)

    pub part_room : length written + length part ≤ 192
    part_room = front (length written) part (c ∷ []) 192 part_fits

    module _ (mid : State) (p : mid ≡ wrote passed (after_term codes) part) where
      pub sign_room : length mid.written < 192
      sign_room = omega (arith, room_after passed mid (after_term codes) part p (λ cs. cs) (λ cs. c ∷ []) 192 part_fits)

      pub signed_wrote : (after : State) → after ≡ wrote mid mid.codes (c ∷ []) → Done after
      signed_wrote after q = done after (after_term codes) (part ++ (c ∷ [])) s.left (signed_text code codes l c s) (wrote_both passed mid (after_term codes) part p (λ cs. cs) (λ cs. c ∷ []) after q)

  -- two parts and a joiner, in brackets where they need them
  module _ (c own under : ℕ) (j : IsJoined code codes c own under) where
    abbrev opening : List ℕ
    opening = bracketed 0x28 own l

    abbrev closing : List ℕ
    closing = bracketed 0x29 own l

    abbrev part_at : ℕ → List ℕ → List ℕ
    part_at r cs = flat (within r (term_in cs))

    abbrev left : List ℕ
    left = part_at own codes

    abbrev right : List ℕ
    right = part_at under (after_term codes)

    abbrev last : List ℕ
    last = after_term (after_term codes)

    all_fits : length written + length ((((opening ++ left) ++ (c ∷ [])) ++ right) ++ closing) ≤ 192
    all_fits = fits _ (joined_text code codes l c own under j)

    right_fits : length written + length (((opening ++ left) ++ (c ∷ [])) ++ right) ≤ 192
    right_fits = front (length written) (((opening ++ left) ++ (c ∷ [])) ++ right) closing 192 all_fits

    joiner_fits : length written + length ((opening ++ left) ++ (c ∷ [])) ≤ 192
    joiner_fits = front (length written) ((opening ++ left) ++ (c ∷ [])) right 192 right_fits

    left_fits : length written + length (opening ++ left) ≤ 192
    left_fits = front (length written) (opening ++ left) (c ∷ []) 192 joiner_fits

    pub open_room : length written + length opening ≤ 192
    open_room = front (length written) opening left 192 left_fits

    module _ (s : State) (p : s ≡ wrote passed codes opening) where
      pub left_room : length s.written + length (part_at own s.codes) ≤ 192
      left_room = room_after passed s codes opening p after_term (part_at own) 192 left_fits

      module _ (t : State) (q : t ≡ wrote s (after_term s.codes) (part_at own s.codes)) where
        left-wrote : t ≡ wrote passed (after_term codes) (opening ++ left)
        left-wrote = wrote_both passed s codes opening p after_term (part_at own) t q

        pub joiner_room : length t.written < 192
        joiner_room = omega (arith, room_after passed t (after_term codes) (opening ++ left) left-wrote (λ cs. cs) (λ cs. c ∷ []) 192 joiner_fits)

        module _ (u : State) (x : u ≡ wrote t t.codes (c ∷ [])) where
          joiner-wrote : u ≡ wrote passed (after_term codes) ((opening ++ left) ++ (c ∷ []))
          joiner-wrote = wrote_both passed t (after_term codes) (opening ++ left) left-wrote (λ cs. cs) (λ cs. c ∷ []) u x

          -- fewer codes are left
          pub right_less : length u.codes ≤ length codes
          right_less = rw joiner-wrote (omega (arith, length-drop (taken codes).size codes))

          pub right_room : length u.written + length (part_at under u.codes) ≤ 192
          right_room = room_after passed u (after_term codes) ((opening ++ left) ++ (c ∷ [])) joiner-wrote after_term (part_at under) 192 right_fits

          module _ (v : State) (y : v ≡ wrote u (after_term u.codes) (part_at under u.codes)) where
            right-wrote : v ≡ wrote passed last (((opening ++ left) ++ (c ∷ [])) ++ right)
            right-wrote = wrote_both passed u (after_term codes) ((opening ++ left) ++ (c ∷ [])) joiner-wrote after_term (part_at under) v y

            pub close_room : length v.written + length closing ≤ 192
            close_room = room_after passed v last (((opening ++ left) ++ (c ∷ [])) ++ right) right-wrote (λ cs. cs) (λ cs. closing) 192 all_fits

            pub joined_wrote : (after : State) → after ≡ wrote v v.codes closing → Done after
            joined_wrote after z =
                done after last _ j.left (joined_text code codes l c own under j) (wrote_both passed v last (((opening ++ left) ++ (c ∷ [])) ++ right) right-wrote (λ cs. cs) (λ cs. closing) after z)

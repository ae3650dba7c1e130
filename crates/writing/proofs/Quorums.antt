-- What the writer puts for a quorum (document 02, K4): the room for it, and a law for each return of `places` and `quorum`. Assumes nothing.
use Prim.Native.Nat.{ℕ, suc, ◌+◌, ◌-◌, ◌<◌, ◌≤◌}
use native.Mathlib.Omega.{arith}
use mathlib.Core.Path.{◌≡◌, refl, sym, ap, ◌∙◌}
use mathlib.Core.Bool.{false, true}
use mathlib.Core.List.{List, [], ◌∷◌, ◌++◌, append_assoc}
use lib.ListN.{length, take, drop, get_or, length-drop}
use lib.Seq.{drop-drop, take-length}
use Rattle.model.specs.Terms.{cons, quorum, quorate, code_of}
use Rattle.model.specs.Texts.{places, decimal, flat, flat_all, rank, fewest, fewest_all}
use Rattle.model.proofs.Truth.{cond_case}
use Rattle.model.proofs.Texts.{rank_most}
use Rattle.model.proofs.Bracketed.{at_most_low, places_fewest}
use Rattle.words.specs.AnyBytes.{Taken, TakenAll, no_code, taken_all, take_quorum, taken, term_in}
use Rattle.words.proofs.AnyBytes.{taken_step, all_none, all_step, all_count}
use Rattle.writing.specs.Writing.{within, places_in, State, state, wrote, after_term, after_terms}
use Rattle.writing.proofs.Marks.{IsWhole, none_at}
use Rattle.writing.proofs.Putting.{wrote_none, wrote_both, room_after, front}
use Rattle.writing.proofs.Parts.{atom_flat}

-- ---- places

-- no place is left
no_places_text : (m c : ℕ) (codes : List ℕ) → m ≡ 0 → flat_all c (places_in m codes) ≡ []
unfolding flat fewest
no_places_text m c codes z = rw (z, all_none codes) refl

no_places_left : (m : ℕ) (codes : List ℕ) → m ≡ 0 → after_terms m codes ≡ codes
no_places_left m codes z = rw (z, all_none codes) refl

-- one place, and those after it
module _ (m : ℕ) (codes : List ℕ) (more : 0 < m) where
  first_taken : taken_all taken m codes ≡ record {
    terms = cons (term_in codes) (taken_all taken (m - 1) (after_term codes)).terms;
    size = (taken codes).size + (taken_all taken (m - 1) (after_term codes)).size;
  }
  first_taken =
      let s : m ≡ suc (m - 1) = omega arith in
      ap (λ (k : ℕ). taken_all taken k codes) s ∙ all_step (m - 1) codes

  places_text : (c : ℕ) → flat_all c (places_in m codes) ≡ ((c ∷ []) ++ flat (within 2 (term_in codes))) ++ flat_all 0x2C (places_in (m - 1) (after_term codes))
  unfolding flat fewest
  places_text c =
      let t = fewest (term_in codes) in
      let w : flat (within 2 (term_in codes)) ≡ flat t = ap flat (at_most_low 2 t (rank_most t)) in
      ap (λ (x : TakenAll). flat_all c (fewest_all x.terms)) first_taken ∙ ap (λ (l : List ℕ). c ∷ (l ++ flat_all 0x2C (places_in (m - 1) (after_term codes)))) (sym w)

  places_left : after_terms m codes ≡ after_terms (m - 1) (after_term codes)
  places_left =
      ap (λ (x : TakenAll). drop x.size codes) first_taken ∙ sym (drop-drop (taken_all taken (m - 1) (after_term codes)).size (taken codes).size codes)

pub places_none : (m c : ℕ) (before : State) → m ≡ 0 → before ≡ wrote before (after_terms m before.codes) (flat_all c (places_in m before.codes))
places_none m c before z = wrote_none before ∙ rw (no_places_text m c before.codes z, no_places_left m before.codes z) refl

module _ (m c : ℕ) (before : State) (more : 0 < m) (room : length before.written + length (flat_all c (places_in m before.codes)) ≤ 192) where
  abbrev part_at : List ℕ → List ℕ
  part_at cs = flat (within 2 (term_in cs))

  abbrev rest_at : List ℕ → List ℕ
  rest_at cs = flat_all 0x2C (places_in (m - 1) cs)

  abbrev one : List ℕ
  one = (c ∷ []) ++ part_at before.codes

  rest_fits : length before.written + length (one ++ rest_at (after_term before.codes)) ≤ 192
  rest_fits = rw (places_text m before.codes more c) at room

  part_fits : length before.written + length one ≤ 192
  part_fits = front (length before.written) one (rest_at (after_term before.codes)) 192 rest_fits

  pub first_room : length before.written < 192
  first_room = omega (arith, part_fits)

  module _ (s : State) (p : s ≡ wrote before before.codes (c ∷ [])) where
    pub first_part_room : length s.written + length (part_at s.codes) ≤ 192
    first_part_room = room_after before s before.codes (c ∷ []) p after_term part_at 192 part_fits

    module _ (t : State) (q : t ≡ wrote s (after_term s.codes) (part_at s.codes)) where
      first-wrote : t ≡ wrote before (after_term before.codes) one
      first-wrote = wrote_both before s before.codes (c ∷ []) p after_term part_at t q

      -- no more codes are left
      pub rest_less : length t.codes ≤ length before.codes
      rest_less = rw first-wrote (omega (arith, length-drop (taken before.codes).size before.codes))

      pub rest_room : length t.written + length (rest_at t.codes) ≤ 192
      rest_room = room_after before t (after_term before.codes) one first-wrote (after_terms (m - 1)) rest_at 192 rest_fits

      pub places-more : (after : State) → after ≡ wrote t (after_terms (m - 1) t.codes) (rest_at t.codes) → after ≡ wrote before (after_terms m before.codes) (flat_all c (places_in m before.codes))
      places-more after x =
          wrote_both before t (after_term before.codes) one first-wrote (after_terms (m - 1)) rest_at after x ∙ rw (places_text m before.codes more c, places_left m before.codes more) refl

-- ---- a quorum

quorum_taken : (codes : List ℕ) → taken (0x32 ∷ codes) ≡ take_quorum taken codes
unfolding code_of
quorum_taken codes = taken_step 0x32 codes

-- it has no brackets around it
quorum_rank : (cs : List ℕ) → rank (fewest (take_quorum taken cs).term) ≡ 0
unfolding rank fewest
quorum_rank [] = refl
quorum_rank (k ∷ []) = refl
quorum_rank (k ∷ m ∷ cs) = cond_case (λ (x : Taken). rank (fewest x.term) ≡ 0) (quorate k m) _ _ (λ _. refl) (λ _. refl)

pub quorum_plain : (codes : List ℕ) (l : ℕ) → flat (within l (term_in (0x32 ∷ codes))) ≡ flat (fewest (term_in (0x32 ∷ codes)))
quorum_plain codes l = atom_flat l (fewest (term_in (0x32 ∷ codes))) (ap (λ (x : Taken). rank (fewest x.term)) (quorum_taken codes) ∙ quorum_rank codes)

-- two bytes and the rest
pub first_two : (l : List ℕ) → 2 ≤ length l → l ≡ get_or l 0 0 ∷ get_or l 1 0 ∷ take (length l - 2) (drop 2 l)
first_two [] h = absurd (omega arith)
first_two (k ∷ []) h = absurd (omega arith)
first_two (k ∷ m ∷ l) h =
    let e : suc (suc (length l)) - 2 ≡ length l = omega arith in
    rw (e, take-length l) refl

-- without a k and an m in range it is the strongest party
pub no_numbers : (codes : List ℕ) → length codes < 2 → IsWhole 0x32 codes 0x2A
no_numbers codes h = none_at 0x32 codes (quorum_taken codes ∙ short codes h)
  where
    short : (cs : List ℕ) → length cs < 2 → take_quorum taken cs ≡ no_code
    short [] i = refl
    short (k ∷ []) i = refl
    short (k ∷ m ∷ cs) i = absurd (omega arith)

module _ (k m : ℕ) (codes : List ℕ) where
  pub numbers_out : quorate k m ≡ false → IsWhole 0x32 (k ∷ m ∷ codes) 0x2A
  numbers_out h = none_at 0x32 (k ∷ m ∷ codes) (quorum_taken (k ∷ m ∷ codes) ∙ rw h refl)

  -- k, a colon, m, the places, and a closing bracket
  module _ (fits : quorate k m ≡ true) where
    quorum_is : taken (0x32 ∷ k ∷ m ∷ codes) ≡ record { term = quorum k (taken_all taken m codes).terms; size = 3 + (taken_all taken m codes).size }
    quorum_is = quorum_taken (k ∷ m ∷ codes) ∙ rw fits refl

    quorum_text : flat (fewest (term_in (0x32 ∷ k ∷ m ∷ codes))) ≡ (((decimal k ++ (0x3A ∷ [])) ++ decimal m) ++ flat_all 0x28 (places_in m codes)) ++ (0x29 ∷ [])
    unfolding flat fewest
    quorum_text =
        let all = flat_all 0x28 (places_in m codes) in
        let e : places (places_in m codes) ≡ m = places_fewest (taken_all taken m codes).terms ∙ all_count m codes in
        ap (λ (x : Taken). flat (fewest x.term)) quorum_is
        ∙ ap (λ (j : ℕ). decimal k ++ (0x3A ∷ (decimal j ++ (all ++ (0x29 ∷ []))))) e
        ∙ sym (append_assoc ((decimal k ++ (0x3A ∷ [])) ++ decimal m) all (0x29 ∷ []) ∙ append_assoc (decimal k ++ (0x3A ∷ [])) (decimal m) (all ++ (0x29 ∷ [])) ∙ append_assoc (decimal k) (0x3A ∷ []) (decimal m ++ (all ++ (0x29 ∷ []))))

    quorum_left : after_term (0x32 ∷ k ∷ m ∷ codes) ≡ after_terms m codes
    quorum_left =
        let n = (taken_all taken m codes).size in
        let e : 3 + n ≡ suc (suc (suc n)) = omega arith in
        ap (λ (x : Taken). drop x.size (0x32 ∷ k ∷ m ∷ codes)) quorum_is ∙ ap (λ (j : ℕ). drop j (0x32 ∷ k ∷ m ∷ codes)) e

-- what `quorum` writes where the bytes after the code are no k and m in range
module _ (before : State) (w : IsWhole 0x32 before.codes 0x2A) (room : length before.written + length (flat (fewest (term_in (0x32 ∷ before.codes)))) ≤ 192) where
  pub top_room : length before.written < 192
  top_room = omega (arith, rw w.text at room)

  pub top_wrote : (after : State) → after ≡ wrote before before.codes (0x2A ∷ []) → after ≡ wrote before (after_term (0x32 ∷ before.codes)) (flat (fewest (term_in (0x32 ∷ before.codes))))
  top_wrote after p = p ∙ rw (w.text, w.left) refl

-- and where they are; k and m are passed
module _ (k m : ℕ) (codes written : List ℕ) (fits : quorate k m ≡ true) (before : State) (begun : before ≡ state (k ∷ m ∷ codes) written)
    (room : length before.written + length (flat (fewest (term_in (0x32 ∷ before.codes)))) ≤ 192) where
  abbrev passed : State
  passed = state codes written

  abbrev all_at : List ℕ → List ℕ
  all_at cs = flat_all 0x28 (places_in m cs)

  abbrev colon : List ℕ
  colon = decimal k ++ (0x3A ∷ [])

  abbrev numbers : List ℕ
  numbers = colon ++ decimal m

  abbrev listed : List ℕ
  listed = numbers ++ all_at codes

  end_fits : length written + length (listed ++ (0x29 ∷ [])) ≤ 192
  end_fits = rw (quorum_text k m codes fits) at (rw begun at room)

  all_fits : length written + length listed ≤ 192
  all_fits = front (length written) listed (0x29 ∷ []) 192 end_fits

  numbers_fit : length written + length numbers ≤ 192
  numbers_fit = front (length written) numbers (all_at codes) 192 all_fits

  colon_fits : length written + length colon ≤ 192
  colon_fits = front (length written) colon (decimal m) 192 numbers_fit

  pub k_room : length written + length (decimal k) ≤ 192
  k_room = front (length written) (decimal k) (0x3A ∷ []) 192 colon_fits

  module _ (s : State) (p : s ≡ wrote passed codes (decimal k)) where
    pub colon_room : length s.written < 192
    colon_room = omega (arith, room_after passed s codes (decimal k) p (λ cs. cs) (λ cs. 0x3A ∷ []) 192 colon_fits)

    module _ (t : State) (q : t ≡ wrote s s.codes (0x3A ∷ [])) where
      colon-wrote : t ≡ wrote passed codes colon
      colon-wrote = wrote_both passed s codes (decimal k) p (λ cs. cs) (λ cs. 0x3A ∷ []) t q

      pub m_room : length t.written + length (decimal m) ≤ 192
      m_room = room_after passed t codes colon colon-wrote (λ cs. cs) (λ cs. decimal m) 192 numbers_fit

      module _ (u : State) (x : u ≡ wrote t t.codes (decimal m)) where
        m-wrote : u ≡ wrote passed codes numbers
        m-wrote = wrote_both passed t codes colon colon-wrote (λ cs. cs) (λ cs. decimal m) u x

        pub places_less : length u.codes ≡ length codes
        places_less = rw m-wrote refl

        pub places_room : length u.written + length (all_at u.codes) ≤ 192
        places_room = room_after passed u codes numbers m-wrote (after_terms m) all_at 192 all_fits

        module _ (v : State) (y : v ≡ wrote u (after_terms m u.codes) (all_at u.codes)) where
          places-wrote : v ≡ wrote passed (after_terms m codes) listed
          places-wrote = wrote_both passed u codes numbers m-wrote (after_terms m) all_at v y

          pub end_room : length v.written < 192
          end_room = omega (arith, room_after passed v (after_terms m codes) listed places-wrote (λ cs. cs) (λ cs. 0x29 ∷ []) 192 end_fits)

          pub quorum_wrote : (after : State) → after ≡ wrote v v.codes (0x29 ∷ []) → after ≡ wrote before (after_term (0x32 ∷ before.codes)) (flat (fewest (term_in (0x32 ∷ before.codes))))
          quorum_wrote after z =
              wrote_both passed v (after_terms m codes) listed places-wrote (λ cs. cs) (λ cs. 0x29 ∷ []) after z ∙ rw (begun, quorum_text k m codes fits, quorum_left k m codes fits) refl

-- Each return is a law of `proofs/Parts.antt`, those of a quorum of `proofs/Quorums.antt`.
use Rattle.std.proofs.Common.{◌≡◌, ◌-◌, ◌≤◌, ap, ℕ, List, refl, true, length, take, drop, slice_index_or, ◌∷◌, sym, ◌∙◌, arith}
use borrow.Author.Tests.{ltb-true}
use Rattle.model.specs.Terms.{quorate}
use Rattle.model.specs.Texts.{joiner, join_rank}
use Rattle.model.proofs.Reading.{quorate_true}
use Rattle.terms.specs.Joiners.{kind}
use Rattle.writing.specs.Writing.{State, state}
use Rattle.writing.proofs.Marks.{IsWhole, IsSigned, IsJoined, whole_at, signed_at, joined_at, quorum_code}
use Rattle.writing.proofs.Parts.{none_room, none_wrote, whole_room, whole_wrote, part_room, sign_room, signed_wrote, open_room, left_room, joiner_room, right_less, right_room, close_room, joined_wrote}
use Rattle.writing.proofs.Quorums.{places_none, first_room, first_part_room, rest_less, rest_room, places-more, first_two, quorum_plain, no_numbers, numbers_out, top_room, top_wrote, k_room, colon_room, m_room, places_less, places_room, end_room, quorum_wrote}
use Rattle.writing.proofs.Writer.+part_places_quorum.Goals as goal
use Rattle.writing.proofs.Writer.+part_places_quorum.Goals.{part-In-Some, part-In-Whole, part-In-Sign, part-In-Between, part-In-Quorum, quorum-Then-in_range, quorum-In_default, quorum-in_default-via-then-self-lt2, quorum-in_default-via-in-len2-up+else-in_range}

pub part-put-requires : goal.part-put-requires
part-put-requires t c = none_room c.args.self.now _ (rw (← c.self.view_is) c.in_default.ensures.cases) c.requires

pub part-returns-in_default : goal.part-returns-in_default
part-returns-in_default t c = none_wrote c.args.self.now _ (rw (← c.self.view_is) c.in_default.ensures.cases) c.requires c.put.new.self c.put.ensures

-- the codes are a code and what follows it
begun : (t : ℕ) (c : part-In-Some t) → c.args.self.now ≡ state (c.in-Some.code.now ∷ c.in-Some.rest.now) (take c.self.inside.to c.self.inside.scratch)
begun t c = sym c.self.view_is ∙ rw c.in-Some.ensures.cases.0

whole : (t : ℕ) (c : part-In-Whole t) → IsWhole c.in-Some.code.now c.in-Some.rest.now c.in-Whole.c
whole t c = whole_at _ _ _ (sym c.mark_of.ensures ∙ c.in-Whole.is)

signed : (t : ℕ) (c : part-In-Sign t) → IsSigned c.in-Some.code.now c.in-Some.rest.now c.in-Sign.c
signed t c = signed_at _ _ _ (sym c.mark_of.ensures ∙ c.in-Sign.is)

joined : (t : ℕ) (c : part-In-Between t) (mark own under : ℕ) → mark ≡ joiner (kind c.in-Between.joiner) → own ≡ join_rank (kind c.in-Between.joiner) → under ≡ own - 1 → IsJoined c.in-Some.code.now c.in-Some.rest.now mark own under
joined t c mark own under m o u = rw (u, m, o) (joined_at _ _ _ (sym c.mark_of.ensures ∙ c.in-Between.is))

pub part-put-requires-in-Whole : goal.part-put-requires-in-Whole
part-put-requires-in-Whole t c =
    let p = goal.at.part-put-requires-in-Whole t c in
    whole_room _ _ _ c.args.self.now (begun t p.In-Some) _ c.requires _ (whole t p.In-Whole)

pub part-returns-in-Whole : goal.part-returns-in-Whole
part-returns-in-Whole t c =
    let p = goal.at.part-returns-in-Whole t c in
    whole_wrote _ _ _ c.args.self.now (begun t p.In-Some) _ c.requires _ (whole t p.In-Whole) c.put-in-Whole.new.self c.put-in-Whole.ensures

pub part-part-requires : goal.part-part-requires
part-part-requires t c =
    let p = goal.at.part-part-requires t c in
    (omega (arith, c.decreases, ap (λ (s : State). length s.codes) (begun t p.In-Some)), part_room _ _ _ c.args.self.now (begun t p.In-Some) _ c.requires _ (signed t p.In-Sign))

pub part-put-requires-in-Sign : goal.part-put-requires-in-Sign
part-put-requires-in-Sign t c =
    let p = goal.at.part-put-requires-in-Sign t c in
    sign_room _ _ _ c.args.self.now (begun t p.In-Some) _ c.requires _ (signed t p.In-Sign) c.part.new.self c.part.ensures

pub part-returns-in-Sign : goal.part-returns-in-Sign
part-returns-in-Sign t c =
    let p = goal.at.part-returns-in-Sign t c in
    signed_wrote _ _ _ c.args.self.now (begun t p.In-Some) _ c.requires _ (signed t p.In-Sign) c.part.new.self c.part.ensures c.put-in-Sign.new.self c.put-in-Sign.ensures

pub part-bracket-requires : goal.part-bracket-requires
part-bracket-requires t c =
    let p = goal.at.part-bracket-requires t c in
    open_room _ _ _ c.args.self.now (begun t p.In-Some) _ c.requires _ _ _ (joined t p.In-Between _ _ _ refl c.rank-own.ensures refl)

pub part-part-requires-in-Between : goal.part-part-requires-in-Between
part-part-requires-in-Between t c =
    let p = goal.at.part-part-requires-in-Between t c in (
      omega (arith, c.decreases, ap (λ (s : State). length s.codes) (begun t p.In-Some), ap (λ (s : State). length s.codes) c.bracket.ensures),
      left_room _ _ _ c.args.self.now (begun t p.In-Some) _ c.requires _ _ _ (joined t p.In-Between _ _ _ refl c.rank-own.ensures refl) c.bracket.new.self c.bracket.ensures,
    )

pub part-put-requires-in-Between : goal.part-put-requires-in-Between
part-put-requires-in-Between t c =
    let p = goal.at.part-put-requires-in-Between t c in
    joiner_room _ _ _ c.args.self.now (begun t p.In-Some) _ c.requires _ _ _ (joined t p.In-Between _ _ _ refl c.rank-own.ensures refl) c.bracket.new.self c.bracket.ensures c.part-in-Between.new.self c.part-in-Between.ensures

pub part-part-requires-in-Between-2 : goal.part-part-requires-in-Between-2
part-part-requires-in-Between-2 t c =
    let p = goal.at.part-part-requires-in-Between-2 t c in
    let j = joined t p.In-Between _ _ _ c.mark.ensures c.rank-own.ensures refl in (
      omega (arith, c.decreases, ap (λ (s : State). length s.codes) (begun t p.In-Some), right_less _ _ _ c.args.self.now (begun t p.In-Some) _ c.requires _ _ _ j c.bracket.new.self c.bracket.ensures c.part-in-Between.new.self c.part-in-Between.ensures c.put-in-Between.new.self c.put-in-Between.ensures),
      right_room _ _ _ c.args.self.now (begun t p.In-Some) _ c.requires _ _ _ j c.bracket.new.self c.bracket.ensures c.part-in-Between.new.self c.part-in-Between.ensures c.put-in-Between.new.self c.put-in-Between.ensures,
    )

pub part-bracket-requires-in-Between : goal.part-bracket-requires-in-Between
part-bracket-requires-in-Between t c =
    let p = goal.at.part-bracket-requires-in-Between t c in
    close_room _ _ _ c.args.self.now (begun t p.In-Some) _ c.requires _ _ _ (joined t p.In-Between _ _ _ c.mark.ensures c.rank-own.ensures refl) c.bracket.new.self c.bracket.ensures c.part-in-Between.new.self c.part-in-Between.ensures c.put-in-Between.new.self c.put-in-Between.ensures c.part-in-Between-2.new.self c.part-in-Between-2.ensures

pub part-returns-in-Between : goal.part-returns-in-Between
part-returns-in-Between t c =
    let p = goal.at.part-returns-in-Between t c in
    joined_wrote _ _ _ c.args.self.now (begun t p.In-Some) _ c.requires _ _ _ (joined t p.In-Between _ _ _ c.mark.ensures c.rank-own.ensures refl) c.bracket.new.self c.bracket.ensures c.part-in-Between.new.self c.part-in-Between.ensures c.put-in-Between.new.self c.put-in-Between.ensures c.part-in-Between-2.new.self c.part-in-Between-2.ensures c.bracket-in-Between.new.self c.bracket-in-Between.ensures

-- the code is a quorum's, whose text has no brackets
quorum_there : (t : ℕ) (c : part-In-Quorum t) → c.in-Some.code.now ≡ 0x32
quorum_there t c = quorum_code _ (sym c.mark_of.ensures ∙ c.in-Quorum.is)

pub part-quorum-requires : goal.part-quorum-requires
part-quorum-requires t c =
    let p = goal.at.part-quorum-requires t c in (
      omega (arith, c.decreases, ap (λ (s : State). length s.codes) (begun t p.In-Some)),
      rw (quorum_plain _ c.args.rank) at (rw (begun t p.In-Some, quorum_there t p.In-Quorum) at c.requires),
    )

pub part-returns-in-Quorum : goal.part-returns-in-Quorum
part-returns-in-Quorum t c =
    let p = goal.at.part-returns-in-Quorum t c in
    rw (begun t p.In-Some, quorum_there t p.In-Quorum, quorum_plain c.in-Some.rest.now c.args.rank) c.quorum.ensures

pub places-returns-then-left-eq0 : goal.places-returns-then-left-eq0
places-returns-then-left-eq0 t c = places_none c.args.left c.args.c c.args.self.now c.if-left-eq0.true

pub places-put-requires : goal.places-put-requires
places-put-requires t c = first_room c.args.left c.args.c c.args.self.now (omega arith) c.requires

pub places-part-requires : goal.places-part-requires
places-part-requires t c =
    (omega (arith, c.decreases, ap (λ (s : State). length s.codes) c.put.ensures), first_part_room c.args.left c.args.c c.args.self.now (omega arith) c.requires c.put.new.self c.put.ensures)

pub places-places-requires : goal.places-places-requires
places-places-requires t c = (
  omega (arith, c.decreases, rest_less c.args.left c.args.c c.args.self.now (omega arith) c.requires c.put.new.self c.put.ensures c.part.new.self c.part.ensures),
  rest_room c.args.left c.args.c c.args.self.now (omega arith) c.requires c.put.new.self c.put.ensures c.part.new.self c.part.ensures,
)

pub places-returns : goal.places-returns
places-returns t c =
    places-more c.args.left c.args.c c.args.self.now (omega arith) c.requires c.put.new.self c.put.ensures c.part.new.self c.part.ensures c.places.new.self c.places.ensures

-- k and m are there, and in range
numbered : (t : ℕ) (c : quorum-Then-in_range t)
    → c.args.self.now ≡ state (slice_index_or c.self.inside.codes.now 0 0 ∷ slice_index_or c.self.inside.codes.now 1 0 ∷ take (length c.self.inside.codes.now - 2) (drop 2 c.self.inside.codes.now)) (take c.self.inside.to c.self.inside.scratch)
numbered t c = sym c.self.view_is ∙ ap (λ (cs : List ℕ). state cs (take c.self.inside.to c.self.inside.scratch)) (first_two c.self.inside.codes.now c.in-len2-up.len_at_least)

sized : (t : ℕ) (c : quorum-Then-in_range t) → quorate (slice_index_or c.self.inside.codes.now 0 0) (slice_index_or c.self.inside.codes.now 1 0) ≡ true
sized t c = sym c.in_range.ensures ∙ c.if-in_range.true

small : (t : ℕ) (c : quorum-Then-in_range t) → (slice_index_or c.self.inside.codes.now 0 0 ≤ 12) × (slice_index_or c.self.inside.codes.now 1 0 ≤ 12)
small t c =
    let r = quorate_true (slice_index_or c.self.inside.codes.now 0 0) (slice_index_or c.self.inside.codes.now 1 0) (sized t c) in
    (omega (arith, r), omega (arith, r))

pub quorum-number-requires : goal.quorum-number-requires
quorum-number-requires t c =
    let p = (goal.at.quorum-number-requires t c).Then-in_range in
    (omega (arith, small t p), k_room _ _ _ _ (sized t p) c.args.self.now (numbered t p) c.requires)

pub quorum-put-requires : goal.quorum-put-requires
quorum-put-requires t c =
    let p = (goal.at.quorum-put-requires t c).Then-in_range in
    colon_room _ _ _ _ (sized t p) c.args.self.now (numbered t p) c.requires c.number.new.self c.number.ensures

pub quorum-number-requires-in-len2-up : goal.quorum-number-requires-in-len2-up
quorum-number-requires-in-len2-up t c =
    let p = (goal.at.quorum-number-requires-in-len2-up t c).Then-in_range in
    (omega (arith, small t p), m_room _ _ _ _ (sized t p) c.args.self.now (numbered t p) c.requires c.number.new.self c.number.ensures c.put.new.self c.put.ensures)

pub quorum-places-requires : goal.quorum-places-requires
quorum-places-requires t c =
    let p = (goal.at.quorum-places-requires t c).Then-in_range in
    let b = numbered t p in (
      omega (arith, c.decreases, (small t p).1, ap (λ (s : State). length s.codes) b, places_less _ _ _ _ (sized t p) c.args.self.now b c.requires c.number.new.self c.number.ensures c.put.new.self c.put.ensures c.number-in-len2-up.new.self c.number-in-len2-up.ensures),
      places_room _ _ _ _ (sized t p) c.args.self.now b c.requires c.number.new.self c.number.ensures c.put.new.self c.put.ensures c.number-in-len2-up.new.self c.number-in-len2-up.ensures,
    )

pub quorum-put-requires-in-len2-up : goal.quorum-put-requires-in-len2-up
quorum-put-requires-in-len2-up t c =
    let p = (goal.at.quorum-put-requires-in-len2-up t c).Then-in_range in
    end_room _ _ _ _ (sized t p) c.args.self.now (numbered t p) c.requires c.number.new.self c.number.ensures c.put.new.self c.put.ensures c.number-in-len2-up.new.self c.number-in-len2-up.ensures c.places.new.self c.places.ensures

pub quorum-returns-in-len2-up : goal.quorum-returns-in-len2-up
quorum-returns-in-len2-up t c =
    let p = (goal.at.quorum-returns-in-len2-up t c).Then-in_range in
    quorum_wrote _ _ _ _ (sized t p) c.args.self.now (numbered t p) c.requires c.number.new.self c.number.ensures c.put.new.self c.put.ensures c.number-in-len2-up.new.self c.number-in-len2-up.ensures c.places.new.self c.places.ensures c.put-in-len2-up.new.self c.put-in-len2-up.ensures

-- no k and m in range: the strongest party
strongest : (t : ℕ) (c : quorum-In_default t) → IsWhole 0x32 c.args.self.now.codes 0x2A
strongest t c = elim c.in_default.branch [
  | quorum-in_default-via-then-self-lt2 w ↦ rw (← c.self.view_is) (no_numbers c.self.inside.codes.now (omega (arith, ltb-true)))
  | quorum-in_default-via-in-len2-up+else-in_range w ↦ rw (← c.self.view_is, first_two c.self.inside.codes.now w.in-len2-up.len_at_least) (numbers_out _ _ _ (sym w.in_range.ensures ∙ w.if-in_range.false))
]

pub quorum-put-requires-in_default : goal.quorum-put-requires-in_default
quorum-put-requires-in_default t c = top_room c.args.self.now (strongest t (goal.at.quorum-put-requires-in_default t c).In_default) c.requires

pub quorum-returns-in_default : goal.quorum-returns-in_default
quorum-returns-in_default t c = top_wrote c.args.self.now (strongest t (goal.at.quorum-returns-in_default t c).In_default) c.requires c.put-in_default.new.self c.put-in_default.ensures

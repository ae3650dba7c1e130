-- Bytes written to the front of a buffer, and then to the front of the part behind them. Assumes nothing.
use mathlib.Core.Path.{◌≡◌, sym, ap, ◌∙◌}
use mathlib.Core.List.{List, [], ◌++◌, append_assoc, append-nil}
use Prim.Native.Nat.{ℕ, ◌+◌, ◌-◌, ◌≤◌}
use native.Mathlib.Omega.{arith}
use lib.ListN.{length, take, drop, length-append, length-take, length-drop, drop_of_length-le}
use lib.Seq.{take_all, take_at, drop_at, drop-drop}
use Rattle.short_forms.specs.Listings.{FrontWritten}

-- a buffer is as long as it was when the part from place i on is put back, as long as that was
pub part_long : (now part : List ℕ) (i : ℕ) → length part ≡ length (take (length now - i) (drop i now))
    → length (take i now ++ (part ++ drop (length now - i) (drop i now))) ≡ length now
part_long now part i h =
    let k : length part ≡ length now - i = h ∙ ap length (take_all (length now - i) (drop i now) (omega (arith, length-drop i now))) ∙ length-drop i now in
    simp (length-append, length-take, length-drop) (omega (arith, k))

-- the same bytes, differently put
pub front_same : {x y before now : List ℕ} {i : ℕ} → x ≡ y → FrontWritten x before now i → FrontWritten y before now i
front_same e w = rw (← e) w

module _ (x y before now part : List ℕ) (i j : ℕ) (first : FrontWritten x before now i) where
  -- a second list behind the first
  pub front_twice : FrontWritten y (drop i now) part j → FrontWritten (x ++ y) before (take i now ++ part) (i + j)
  front_twice second =
      let rest = drop (length x) before in
      let front : take i now ≡ x = ap (take i) first.content ∙ take_at x rest i (sym first.size) in
      let behind : drop i now ≡ rest = ap (drop i) first.content ∙ drop_at x rest i (sym first.size) in
      let later : drop (length y) (drop i now) ≡ drop (length (x ++ y)) before =
      ap (drop (length y)) behind ∙ drop-drop (length y) (length x) before ∙ ap (λ (k : ℕ). drop k before) (sym (length-append x y)) in
      record {
        size = omega (arith, first.size, second.size, length-append x y);
        content = rw (front, second.content, later) (sym (append_assoc x y (drop (length (x ++ y)) before)));
      }

  -- as a call leaves it that was lent the part from place i on: of the buffer nothing is left over behind the part
  pub front_part : FrontWritten y (take (length now - i) (drop i now)) part j
      → FrontWritten (x ++ y) before (take i now ++ (part ++ drop (length now - i) (drop i now))) (i + j)
  front_part second =
      let fits : length (drop i now) ≤ length now - i = omega (arith, length-drop i now) in
      let whole : take (length now - i) (drop i now) ≡ drop i now = take_all (length now - i) (drop i now) fits in
      let none : drop (length now - i) (drop i now) ≡ [] = drop_of_length-le (drop i now) fits in
      rw (none, append-nil part) (front_twice (rw whole at second))

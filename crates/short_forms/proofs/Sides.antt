-- The coalitions of a word, of a side and of both sides, written one behind the other. Assumes nothing.
use mathlib.Core.Path.{◌≡◌, refl, sym, ap, ap₂, ◌∙◌}
use mathlib.Core.Bool.{Bool}
use mathlib.Core.List.{List, [], ◌∷◌, ◌++◌, append_assoc, append-nil}
use Prim.Native.Nat.{ℕ, ◌+◌, ◌-◌, ◌*◌, ◌/◌, ◌^◌, ◌≤◌, ◌<◌}
use native.Mathlib.Nat.{div-one}
use native.Mathlib.Omega.{arith}
use lib.Bits.{bit_and}
use lib.Dec.{ltb}
use lib.ListN.{length, take, drop, length-append, take-append-drop}
use lib.Seq.{length-take-le, drop_at}
use Rattle.model.specs.Sides.{confidentiality, integrity}
use Rattle.model.specs.Bytes.{big_endian}
use Rattle.model.specs.Coalitions.{member, mark, packed, those}
use Rattle.model.specs.Terms.{Term, held}
use Rattle.model.specs.ShortForms.{pairs, short_form}
use Rattle.model.proofs.Listed.{those_add, those_cong, those_marks, length-those, length_marks, pairs-append, length_pairs}
use Rattle.model.proofs.Packed.{member-packed}
use Rattle.words.specs.Evaluation.{LowestBit, Tabled, coalition_word, word_count}
use Rattle.words.proofs.Names.{words_enough}
use Rattle.words.proofs.Packing.{packed-and}
use Rattle.short_forms.specs.Listings.{marked, bits_of, irredundant, listing, FrontWritten}
use Rattle.short_forms.proofs.Needed.{listing-listed}
use Rattle.short_forms.proofs.Fronts.{front_same, front_part}
use Rattle.short_forms.proofs.Bits.{passed, passed_few, NextBit, bits_end, bits_next}

-- ---- a word

-- the mask leaves the coalitions of n names
packed-mark : (n : ℕ) (f : ℕ → Bool) (w : ℕ) → bit_and (coalition_word n w) (packed f (64 * w) 64) ≡ packed (mark n f) (64 * w) 64
unfolding mark
packed-mark n f w = packed-and (λ c. ltb c (2 ^ n)) f (64 * w) 64

-- the bits of the word before number c are written, and `rest` is what is left of it
pub record WordListed (word first : ℕ) (before now : List ℕ) (rest c at : ℕ) : Type 0 where
  pub from : first ≤ c
  pub to : c ≤ first + 64
  pub moved : rest ≡ word / 2 ^ (c - first)
  pub same : length now ≡ length before
  pub place : at ≡ 2 * length (passed word first c)
  pub front : FrontWritten (pairs (passed word first c)) before now at

pub word_none : (word first : ℕ) (before : List ℕ) → WordListed word first before before word first 0
unfolding those pairs
word_none word first before =
    let e : first - first ≡ 0 = omega arith in
    record {
      from = omega arith;
      to = omega arith;
      moved = sym (ap (λ (k : ℕ). word / 2 ^ k) e ∙ div-one word);
      same = refl;
      place = rw e;
      front = rw e record { size = refl; content = refl };
    }

module _ {word first : ℕ} {before now : List ℕ} {rest c at : ℕ} (done : WordListed word first before now rest c at) where
  pub word_end : rest ≡ 0 → FrontWritten (pairs (bits_of word first)) before now at
  word_end z = front_same (ap pairs (bits_end word first c rest done.from done.moved z done.to)) done.front

  pub word_next : {r : ℕ} → word < 2 ^ 64 → (rest ≡ 0 → ⊥) → LowestBit rest r → NextBit word first c rest r
  word_next {r} fits nonzero low = bits_next word first c rest done.from done.moved r fits nonzero low

  module _ {r : ℕ} (next : NextBit word first c rest r) where
    -- there is room for one more
    pub word_room : 2 * length (bits_of word first) ≤ length before → at + 2 ≤ length now
    word_room h =
        omega (arith, done.same, done.place, passed_few word first (c + r + 1) (omega (arith, next.below)), simp length-append at (ap length next.listed))

    pub word_more : (part : List ℕ) → FrontWritten (big_endian (c + r)) (take (length now - at) (drop at now)) part 2
        → length (take at now ++ (part ++ drop (length now - at) (drop at now))) ≡ length now
        → WordListed word first before (take at now ++ (part ++ drop (length now - at) (drop at now))) (rest / 2 ^ r / 2) (c + r + 1) (at + 2)
    unfolding pairs
    word_more part w len = record {
      from = omega (arith, done.from);
      to = omega (arith, next.below);
      moved = next.left;
      same = len ∙ done.same;
      place = omega (arith, done.place, simp length-append at (ap length next.listed));
      front =
          front_same (sym (ap pairs next.listed ∙ pairs-append (passed word first c) ((c + r) ∷ [])))
          (front_part (pairs (passed word first c)) (big_endian (c + r)) before now part at 2 done.front w);
    }

-- ---- a side

-- behind two bytes for the count, the coalitions of n names in the words before w that are of f
pub record SideListed (n : ℕ) (f : ℕ → Bool) (before now : List ℕ) (at w : ℕ) : Type 0 where
  pub same : length now ≡ length before
  pub place : at ≡ 2 + 2 * length (those (mark n f) 0 (64 * w))
  pub front : FrontWritten (take 2 before ++ pairs (those (mark n f) 0 (64 * w))) before now at

-- how long a listing is
listing-length : (n : ℕ) (f : ℕ → Bool) → length (listing n f) ≡ 2 + 2 * length (those f 0 (2 ^ n))
unfolding listing
listing-length n f = omega (arith, length_pairs (those f 0 (2 ^ n)))

pub side_none : (n : ℕ) (f : ℕ → Bool) (before : List ℕ) → length (listing n f) ≤ length before → SideListed n f before before 2 0
unfolding those pairs
side_none n f before room =
    let two : length (take 2 before) ≡ 2 = length-take-le 2 before (omega (arith, listing-length n f)) in
    record {
      same = refl;
      place = refl;
      front = front_same (sym (append-nil (take 2 before))) record { size = sym two; content = sym (ap (λ (k : ℕ). take 2 before ++ drop k before) two ∙ take-append-drop 2 before) };
    }

module _ {n : ℕ} {f : ℕ → Bool} {before now : List ℕ} {at w : ℕ} (room : length (listing n f) ≤ length before) (done : SideListed n f before now at w) where
  pub side_few : at ≤ 2 + 2 * 2 ^ n
  side_few = omega (arith, done.place, length_marks n f (64 * w), length-those f 0 (2 ^ n))

  -- there is room for the count
  pub side_two : 2 ≤ length now
  side_two = omega (arith, done.same, listing-length n f)

  -- the word that the code makes, the mask and the word of f
  module _ {mask word : ℕ} (m : mask ≡ coalition_word n w) (e : word ≡ packed f (64 * w) 64) where
    bits_marked : bits_of (bit_and mask word) (64 * w) ≡ those (mark n f) (64 * w) 64
    unfolding bits_of
    bits_marked = those_cong (λ c. member (c - 64 * w) (bit_and mask word)) (mark n f) (64 * w) 64 (λ c l h.
        let k : 64 * w + (c - 64 * w) ≡ c = omega arith in
        ap (member (c - 64 * w)) (ap₂ bit_and m e ∙ packed-mark n f w) ∙ member-packed (mark n f) (64 * w) 64 (c - 64 * w) (omega arith) ∙ ap (mark n f) k)

    next_marked : those (mark n f) 0 (64 * (w + 1)) ≡ those (mark n f) 0 (64 * w) ++ bits_of (bit_and mask word) (64 * w)
    next_marked =
        let k : 64 * (w + 1) ≡ 64 * w + 64 = omega arith in
        let s : 0 + 64 * w ≡ 64 * w = omega arith in
        ap (those (mark n f) 0) k ∙ those_add (mark n f) 0 (64 * w) 64
        ∙ ap (λ (l : List ℕ). those (mark n f) 0 (64 * w) ++ l) (ap (λ (i : ℕ). those (mark n f) i 64) s ∙ sym bits_marked)

    pub side_room : at + 2 * length (bits_of (bit_and mask word) (64 * w)) ≤ length now
    side_room = omega (arith, done.same, done.place, listing-length n f, length_marks n f (64 * (w + 1)), simp length-append at (ap length next_marked))

    pub side_more : (part : List ℕ) (j : ℕ) → FrontWritten (pairs (bits_of (bit_and mask word) (64 * w))) (take (length now - at) (drop at now)) part j
        → length (take at now ++ (part ++ drop (length now - at) (drop at now))) ≡ length now
        → SideListed n f before (take at now ++ (part ++ drop (length now - at) (drop at now))) (at + j) (w + 1)
    side_more part j new len =
        let old = those (mark n f) 0 (64 * w) in
        let bits = bits_of (bit_and mask word) (64 * w) in
        record {
          same = len ∙ done.same;
          place = omega (arith, done.place, new.size, length_pairs bits, simp length-append at (ap length next_marked));
          front =
              front_same (append_assoc (take 2 before) (pairs old) (pairs bits) ∙ ap (λ (l : List ℕ). take 2 before ++ l) (sym (ap pairs next_marked ∙ pairs-append old bits)))
              (front_part (take 2 before ++ pairs old) (pairs bits) before now part at j done.front new);
        }

  -- all words are listed: the count goes before them
  pub side_whole : n ≤ 12 → w ≡ word_count n → (after : List ℕ) → FrontWritten (big_endian ((at - 2) / 2)) now after 2 → FrontWritten (listing n f) before after at
  unfolding listing
  side_whole h last after count =
      let all = those f 0 (2 ^ n) in
      let marks : those (mark n f) 0 (64 * w) ≡ all = ap (λ (k : ℕ). those (mark n f) 0 (64 * k)) last ∙ those_marks n f (64 * word_count n) (words_enough n h) in
      let written = front_same (ap (λ (l : List ℕ). take 2 before ++ pairs l) marks) done.front in
      let number : (at - 2) / 2 ≡ length all = omega (arith, done.place, ap length marks) in
      let size : at ≡ length (listing n f) = omega (arith, done.place, ap length marks, length_pairs all) in
      let rest : drop 2 now ≡ pairs all ++ drop (length (listing n f)) before =
      ap (drop 2) (written.content ∙ append_assoc (take 2 before) (pairs all) (drop (length (take 2 before ++ pairs all)) before))
      ∙ drop_at (take 2 before) (pairs all ++ drop (length (take 2 before ++ pairs all)) before) 2 (length-take-le 2 before (omega arith))
      ∙ ap (λ (k : ℕ). pairs all ++ drop k before) (sym written.size ∙ size) in
      record { size = size; content = count.content ∙ ap₂ (λ (k : ℕ) (l : List ℕ). big_endian k ++ l) number rest }

-- ---- both sides

pub sides_written : {n : ℕ} {t : Term} {see change before now part : List ℕ} {i j : ℕ} → n ≤ 12
    → Tabled t confidentiality (word_count n) see → Tabled t integrity (word_count n) change
    → FrontWritten (listing n (irredundant n (marked see))) before now i
    → FrontWritten (listing n (irredundant n (marked change))) (take (length now - i) (drop i now)) part j
    → FrontWritten (short_form n (held t)) before (take i now ++ (part ++ drop (length now - i) (drop i now))) (i + j)
unfolding short_form
sides_written {n} {t} {see} {change} {before} {now} {part} {i} {j} h ts tc first second =
    rw (← listing-listed confidentiality see n t h ts, ← listing-listed integrity change n t h tc)
    (front_part (listing n (irredundant n (marked see))) (listing n (irredundant n (marked change))) before now part i j first second)

-- The bytes of a live ledger as blocks come and go: its front stays the ledger of the blocks held, and later bytes stay. Assumes nothing.
use mathlib.Core.Path.{◌≡◌, refl, sym, ap, ap₂, ◌∙◌}
use mathlib.Core.List.{List, [], ◌∷◌, ◌++◌, append_assoc, append-nil}
use Prim.Native.Nat.{ℕ, zero, suc, ◌+◌, ◌-◌, ◌*◌, ◌/◌, ◌%◌, ◌≤◌, ◌<◌}
use native.Mathlib.Nat.{mod-eq_of_lt}
use native.Mathlib.Numerals.{add-one}
use native.Mathlib.Omega.{arith}
use lib.ListN.{length, take, drop, get_or, set, replicate, length-append, length-take, length-drop, length-set, take-append-drop}
use lib.Seq.{paste, paste-suc, length-paste, take-paste, drop-paste, take_at, drop_at, take_all, take-set-lt, drop-set-lt, set-append_left, split_at, get_or-drop}
use Rattle.model.specs.Bytes.{big_endian, joined}
use Rattle.model.specs.Ledgers.{weighted, check_of, with_check, ledger_of}
use Rattle.model.proofs.Without.{Blocks, none, some, joined_length}
use Rattle.model.specs.Live.{dropped_at}
use Rattle.blocks.specs.Front.{counted, Sized, Front, Kept, Rewritten}

-- ---- bytes moved one by one

-- a turn of a loop that writes s into d from `at` on, byte k being x
paste_more : (d₀ d : List ℕ) (at k x : ℕ) (s : List ℕ) → at + k < length d₀ → k < length s → get_or s k 0 ≡ x → d ≡ paste d₀ at s k → set d (at + k) x ≡ paste d₀ at s (k + 1)
paste_more d₀ d at k x s h l e i = rw (i, ← e, add-one) (paste-suc d₀ at s k 0 h l)

-- what stands past the bytes written
paste_past : (d₀ d : List ℕ) (at k m : ℕ) (s : List ℕ) → at ≤ length d₀ → k ≤ length s → d ≡ paste d₀ at s k → get_or d (at + k + m) 0 ≡ get_or d₀ (at + k + m) 0
paste_past d₀ d at k m s h l i =
    ap (λ (x : List ℕ). get_or x (at + k + m) 0) i ∙ sym (get_or-drop (at + k) (paste d₀ at s k) m 0)
    ∙ ap (λ (x : List ℕ). get_or x m 0) (drop-paste d₀ at s k h l) ∙ get_or-drop (at + k) d₀ m 0

-- a turn of a loop that moves a list down by 512
pub moved_more : (d₀ d : List ℕ) (at k : ℕ) → at + 512 + k < length d₀ → d ≡ paste d₀ at (drop (at + 512) d₀) k → set d (at + k) (get_or d (at + 512 + k) 0) ≡ paste d₀ at (drop (at + 512) d₀) (k + 1)
moved_more d₀ d at k h i =
    let s = drop (at + 512) d₀ in
    let long : k < length s = omega (arith, length-drop (at + 512) d₀) in
    let e : at + k + 512 ≡ at + 512 + k = omega arith in
    paste_more d₀ d at k _ s (omega arith) long (get_or-drop (at + 512) d₀ k 0 ∙ sym (rw e at (paste_past d₀ d at k 512 s (omega arith) (omega arith) i))) i

-- ---- block 0

-- block 0 as its bytes
abbrev frame : ℕ → ℕ → ℕ → ℕ → ℕ → List ℕ
frame n a b c d = (1 ∷ n ∷ a ∷ b ∷ replicate 506 0) ++ (c ∷ d ∷ [])

-- block 0 of a ledger of n names and k grants
abbrev pub head : ℕ → ℕ → List ℕ
head n k = with_check (1 ∷ n ∷ big_endian k ++ replicate 506 0)

head_check : (n k : ℕ) → n ≤ 12 → k ≤ 64 → check_of (1 ∷ n ∷ big_endian k ++ replicate 506 0) ≡ 1 + 2 * n + 4 * k
unfolding check_of
head_check n k h l =
    let a : k / 256 ≡ 0 = omega arith in
    let b : k % 256 ≡ k = omega arith in
    let e : 1 + (2 * n + (3 * (k / 256) + (4 * (k % 256) + 0))) ≡ 1 + 2 * n + 4 * k = omega arith in
    ap (λ (x : ℕ). x % 65521) (sum n (k / 256) (k % 256) ∙ e) ∙ mod-eq_of_lt (omega arith)
  where
    sum : (n a b : ℕ) → weighted 0 (1 ∷ n ∷ a ∷ b ∷ replicate 506 0) ≡ 1 + (2 * n + (3 * a + (4 * b + 0)))
    sum n a b = unfold weighted in refl

head_frame : (n k : ℕ) → n ≤ 12 → k ≤ 64 → head n k ≡ frame n 0 k ((1 + 2 * n + 4 * k) / 256) ((1 + 2 * n + 4 * k) % 256)
unfolding with_check
head_frame n k h l =
    let a : k / 256 ≡ 0 = omega arith in
    let b : k % 256 ≡ k = omega arith in
    ap (λ (x : ℕ). frame n (k / 256) (k % 256) (x / 256) (x % 256)) (head_check n k h l)
    ∙ ap₂ (λ (x y : ℕ). frame n x y ((1 + 2 * n + 4 * k) / 256) ((1 + 2 * n + 4 * k) % 256)) a b

frame_counted : (n a b c d m : ℕ) → counted (frame n a b c d) n m ≡ frame n a m ((1 + 2 * n + 4 * m) / 256) ((1 + 2 * n + 4 * m) % 256)
frame_counted n a b c d m = refl

pub head_counted : (n k m : ℕ) → n ≤ 12 → k ≤ 64 → m ≤ 64 → counted (head n k) n m ≡ head n m
head_counted n k m h l o = ap (λ (x : List ℕ). counted x n m) (head_frame n k h l) ∙ frame_counted n 0 k ((1 + 2 * n + 4 * k) / 256) ((1 + 2 * n + 4 * k) % 256) m ∙ sym (head_frame n m h o)

-- of a new ledger
pub fresh_head : (n : ℕ) → n ≤ 12 → counted (set (set (replicate 512 0) 0 1) 1 n) n 0 ≡ head n 0
fresh_head n h = frame_counted n 0 0 0 0 0 ∙ sym (head_frame n 0 h (omega arith))

pub head_length : (n k : ℕ) → length (head n k) ≡ 512
unfolding with_check
head_length n k = refl

-- ---- the blocks

pub joined-append : (bs cs : List (List ℕ)) → joined (bs ++ cs) ≡ joined bs ++ joined cs
unfolding joined
joined-append [] cs = refl
joined-append (b ∷ bs) cs = ap (λ (l : List ℕ). b ++ l) (joined-append bs cs) ∙ sym (append_assoc b (joined bs) (joined cs))

joined_last : (bs : List (List ℕ)) (b : List ℕ) → joined (bs ++ (b ∷ [])) ≡ joined bs ++ b
unfolding joined
joined_last bs b = joined-append bs (b ∷ []) ∙ ap (λ (l : List ℕ). joined bs ++ l) (append-nil b)

pub blocks_take : (k : ℕ) {bs : List (List ℕ)} → Blocks bs → Blocks (take k bs)
blocks_take zero h = none
blocks_take (suc k) none = none
blocks_take (suc k) (some e h) = some e (blocks_take k h)

pub blocks_drop : (k : ℕ) {bs : List (List ℕ)} → Blocks bs → Blocks (drop k bs)
blocks_drop zero h = h
blocks_drop (suc k) none = none
blocks_drop (suc k) (some e h) = blocks_drop k h

pub blocks_append : {bs cs : List (List ℕ)} → Blocks bs → Blocks cs → Blocks (bs ++ cs)
blocks_append none k = k
blocks_append (some e h) k = some e (blocks_append h k)

sized_blocks : (bs : List (List ℕ)) → Sized bs → Blocks bs
sized_blocks [] h = none
sized_blocks (b ∷ bs) h = some (h 0 (omega arith)) (sized_blocks bs (λ k l. h (suc k) (omega arith)))

pub blocks_at : {bs : List (List ℕ)} → Blocks bs → (k : ℕ) → k < length bs → length (get_or bs k []) ≡ 512
blocks_at none k l = absurd (omega arith)
blocks_at (some e h) zero l = e
blocks_at (some e h) (suc k) l = blocks_at h k (omega arith)

pub counted-length : (l : List ℕ) (n count : ℕ) → length (counted l n count) ≡ length l
counted-length l n count = simp length-set

-- another count, in the front of a list
pub take_counted : (m n count : ℕ) (l : List ℕ) → 512 ≤ m → take m (counted l n count) ≡ counted (take m l) n count
take_counted m n count l h =
    let x = (1 + 2 * n + 4 * count) / 256 in
    let y = (1 + 2 * n + 4 * count) % 256 in
    take-set-lt m (set (set l 3 count) 510 x) 511 y (omega arith)
    ∙ ap (λ (a : List ℕ). set a 511 y) (take-set-lt m (set l 3 count) 510 x (omega arith))
    ∙ ap (λ (a : List ℕ). set (set a 510 x) 511 y) (take-set-lt m l 3 count (omega arith))

-- and behind it
drop-counted : (m n count : ℕ) (l : List ℕ) → 512 ≤ m → drop m (counted l n count) ≡ drop m l
drop-counted m n count l h =
    let x = (1 + 2 * n + 4 * count) / 256 in
    let y = (1 + 2 * n + 4 * count) % 256 in
    drop-set-lt m (set (set l 3 count) 510 x) 511 y (omega arith) ∙ drop-set-lt m (set l 3 count) 510 x (omega arith) ∙ drop-set-lt m l 3 count (omega arith)

counted-append : (n k count : ℕ) (l : List ℕ) → n ≤ 12 → k ≤ 64 → count ≤ 64 → counted (head n k ++ l) n count ≡ head n count ++ l
counted-append n k count l h a b =
    let x = (1 + 2 * n + 4 * count) / 256 in
    let y = (1 + 2 * n + 4 * count) % 256 in
    let z : length (head n k) ≡ 512 = head_length n k in
    ap (λ (m : List ℕ). set (set m 510 x) 511 y) (set-append_left (head n k) l 3 count (omega arith))
    ∙ ap (λ (m : List ℕ). set m 511 y) (set-append_left (set (head n k) 3 count) l 510 x (omega (arith, length-set (head n k) 3 count)))
    ∙ set-append_left (set (set (head n k) 3 count) 510 x) l 511 y (omega (arith, length-set (head n k) 3 count, length-set (set (head n k) 3 count) 510 x))
    ∙ ap (λ (m : List ℕ). m ++ l) (head_counted n k count h a b)

module _ (ledger : List ℕ) (n : ℕ) (blocks : List (List ℕ)) (whole : Blocks blocks) (sized : length ledger ≡ 33280) (names : n ≤ 12) (few : length blocks ≤ 64) (front : Front ledger n blocks) where
  -- a block more, last
  pub front_grown : (block : List ℕ) → length block ≡ 512 → length blocks < 64
      → Front (counted (paste ledger (512 * (length blocks + 1)) block 512) n (length blocks + 1)) n (blocks ++ (block ∷ []))
  unfolding ledger_of
  front_grown block size room =
      let k = length blocks in
      let at = 512 * (k + 1) in
      let m = paste ledger at block 512 in
      let count : length (blocks ++ (block ∷ [])) ≡ k + 1 = length-append blocks (block ∷ []) in
      let total : 512 * (1 + length (blocks ++ (block ∷ []))) ≡ at + 512 = omega arith in
      let start : at ≡ 512 * (1 + k) = omega arith in
      let bytes : take (at + 512) m ≡ head n k ++ joined (blocks ++ (block ∷ [])) =
      take-paste ledger at block 512 (omega arith) (omega arith)
      ∙ ap₂ (λ (a b : List ℕ). a ++ b) (ap (λ (i : ℕ). take i ledger) start ∙ front) (take_all 512 block (omega arith))
      ∙ append_assoc (head n k) (joined blocks) block
      ∙ ap (λ (l : List ℕ). head n k ++ l) (sym (joined_last blocks block)) in
      ap (λ (i : ℕ). take i (counted m n (k + 1))) total
      ∙ take_counted (at + 512) n (k + 1) m (omega arith)
      ∙ ap (λ (l : List ℕ). counted l n (k + 1)) bytes
      ∙ counted-append n k (k + 1) (joined (blocks ++ (block ∷ []))) names few (omega arith)
      ∙ ap (λ (i : ℕ). head n i ++ joined (blocks ++ (block ∷ []))) (sym count)

  module _ (k : ℕ) (below : k < length blocks) where
    before : List ℕ
    before = head n (length blocks) ++ joined (take k blocks)

    after : List ℕ
    after = joined (drop (suc k) blocks)

    rest : List ℕ
    rest = drop (512 * (1 + length blocks)) ledger

    parts : ledger ≡ (before ++ get_or blocks k []) ++ (after ++ rest)
    unfolding ledger_of before after rest joined
    parts =
        let b = get_or blocks k [] in
        let h = head n (length blocks) in
        let j : joined blocks ≡ joined (take k blocks) ++ (b ++ joined (drop (suc k) blocks)) =
        ap joined (split_at blocks k [] below) ∙ joined-append (take k blocks) (b ∷ drop (suc k) blocks) in
        sym (take-append-drop (512 * (1 + length blocks)) ledger)
        ∙ ap (λ (l : List ℕ). l ++ rest) (front ∙ ap (λ (l : List ℕ). h ++ l) j)
        ∙ simp append_assoc

    before-length : length before ≡ 512 * (k + 1)
    unfolding before
    before-length = omega (arith, length-append (head n (length blocks)) (joined (take k blocks)), head_length n (length blocks), joined_length (blocks_take k whole), length-take k blocks)

    middle_length : length (before ++ get_or blocks k []) ≡ 512 * (k + 1) + 512
    middle_length = omega (arith, length-append before (get_or blocks k []), before-length, blocks_at whole k below)

    after_length : length after ≡ 512 * (length blocks - 1 - k)
    unfolding after
    after_length = omega (arith, joined_length (blocks_drop (suc k) whole), length-drop (suc k) blocks)

    -- one less, the later ones moved down
    pub front_shrunk : Front (counted (paste ledger (512 * (k + 1)) (drop (512 * (k + 1) + 512) ledger) (512 * (length blocks - 1 - k))) n (length blocks - 1)) n (dropped_at k blocks)
    unfolding ledger_of before after
    front_shrunk =
        let h = length blocks in
        let at = 512 * (k + 1) in
        let c = 512 * (h - 1 - k) in
        let s = drop (at + 512) ledger in
        let m = paste ledger at s c in
        let count : length (dropped_at k blocks) ≡ h - 1 = omega (arith, length-append (take k blocks) (drop (suc k) blocks), length-take k blocks, length-drop (suc k) blocks) in
        let total : 512 * (1 + length (dropped_at k blocks)) ≡ at + c = omega arith in
        let first : take at ledger ≡ before =
        ap (take at) (parts ∙ append_assoc before (get_or blocks k []) (after ++ rest)) ∙ take_at before (get_or blocks k [] ++ (after ++ rest)) at before-length in
        let later : s ≡ after ++ rest = ap (drop (at + 512)) parts ∙ drop_at (before ++ get_or blocks k []) (after ++ rest) (at + 512) middle_length in
        let bytes : take (at + c) m ≡ head n h ++ joined (dropped_at k blocks) =
        take-paste ledger at s c (omega arith) (omega (arith, length-drop (at + 512) ledger))
        ∙ ap₂ (λ (a b : List ℕ). a ++ b) first (ap (take c) later ∙ take_at after rest c after_length)
        ∙ append_assoc (head n h) (joined (take k blocks)) after
        ∙ ap (λ (l : List ℕ). head n h ++ l) (sym (joined-append (take k blocks) (drop (suc k) blocks))) in
        ap (λ (i : ℕ). take i (counted m n (h - 1))) total
        ∙ take_counted (at + c) n (h - 1) m (omega arith)
        ∙ ap (λ (l : List ℕ). counted l n (h - 1)) bytes
        ∙ counted-append n h (h - 1) (joined (dropped_at k blocks)) names few (omega arith)
        ∙ ap (λ (i : ℕ). head n i ++ joined (dropped_at k blocks)) (sym count)

-- ---- what the functions write

-- a new ledger
pub kept_new : (ledger : List ℕ) (n : ℕ) (after : List ℕ) → length ledger ≡ 33280 → n ≤ 12 → after ≡ counted (paste ledger 0 (set (set (replicate 512 0) 0 1) 1 n) 512) n 0 → Rewritten ledger n [] after
unfolding ledger_of joined
kept_new ledger n after sized names is =
    let first : List ℕ = set (set (replicate 512 0) 0 1) 1 n in
    let m = paste ledger 0 first 512 in
    rw is (record {
      kept = record {
        sized = counted-length m n 0 ∙ length-paste ledger 0 first 512 (omega arith) (omega arith) ∙ sized;
        names = names;
        few = omega arith;
        whole = blocks_at none;
        front = take_counted 512 n 0 m (omega arith)
            ∙ ap (λ (l : List ℕ). counted l n 0) (take-paste ledger 0 first 512 (omega arith) (omega arith))
            ∙ fresh_head n names ∙ sym (append-nil (head n 0));
      };
      later = drop-counted 512 n 0 m (omega arith) ∙ drop-paste ledger 0 first 512 (omega arith) (omega arith);
    })

module _ (ledger : List ℕ) (n : ℕ) (blocks : List (List ℕ)) (h : Kept ledger n blocks) (after : List ℕ) where
  whole : Blocks blocks
  whole = sized_blocks blocks h.whole

  pub kept_grown : (held : ℕ) (block : List ℕ) → after ≡ counted (paste ledger (512 * (held + 1)) block 512) n (held + 1) → held ≡ length blocks → held < 64 → length block ≡ 512 → Rewritten ledger n (blocks ++ block ∷ []) after
  kept_grown held block is e below size =
      let room : length blocks < 64 = omega arith in
      let at = 512 * (length blocks + 1) in
      let m = paste ledger at block 512 in
      let count : length (blocks ++ (block ∷ [])) ≡ length blocks + 1 = length-append blocks (block ∷ []) in
      let end : 512 * (1 + length (blocks ++ (block ∷ []))) ≡ at + 512 = omega arith in
      let sized = h.sized in
      rw (is, e) (record {
        kept = record {
          sized = counted-length m n (length blocks + 1) ∙ length-paste ledger at block 512 (omega arith) (omega arith) ∙ sized;
          names = h.names;
          few = omega arith;
          whole = blocks_at (blocks_append whole (some size none));
          front = front_grown ledger n blocks whole sized h.names h.few h.front block size room;
        };
        later = drop-counted (512 * (1 + length (blocks ++ (block ∷ [])))) n (length blocks + 1) m (omega arith) ∙ ap (λ (i : ℕ). drop i m) end ∙ drop-paste ledger at block 512 (omega arith) (omega arith) ∙ ap (λ (i : ℕ). drop i ledger) (sym end);
      })

  pub kept_shrunk : (held k : ℕ) → after ≡ counted (paste ledger (512 * (k + 1)) (drop (512 * (k + 1) + 512) ledger) (512 * (held - 1 - k))) n (held - 1) → held ≡ length blocks → k < held → Rewritten ledger n (dropped_at k blocks) after
  kept_shrunk held k is e low =
      let below : k < length blocks = omega arith in
      let at = 512 * (k + 1) in
      let c = 512 * (length blocks - 1 - k) in
      let s = drop (at + 512) ledger in
      let m = paste ledger at s c in
      let sized = h.sized in
      let few = h.few in
      let long : c ≤ length s = omega (arith, length-drop (at + 512) ledger) in
      let count : length (dropped_at k blocks) ≡ length blocks - 1 = omega (arith, length-append (take k blocks) (drop (suc k) blocks), length-take k blocks, length-drop (suc k) blocks) in
      let end : 512 * (1 + length (dropped_at k blocks)) ≡ at + c = omega arith in
      rw (is, e) (record {
        kept = record {
          sized = counted-length m n (length blocks - 1) ∙ length-paste ledger at s c (omega arith) long ∙ sized;
          names = h.names;
          few = omega arith;
          whole = blocks_at (blocks_append (blocks_take k whole) (blocks_drop (suc k) whole));
          front = front_shrunk ledger n blocks whole sized h.names few h.front k below;
        };
        later = drop-counted (512 * (1 + length (dropped_at k blocks))) n (length blocks - 1) m (omega arith) ∙ ap (λ (i : ℕ). drop i m) end ∙ drop-paste ledger at s c (omega arith) long ∙ ap (λ (i : ℕ). drop i ledger) (sym end);
      })

-- Laws of a ledger's blocks, as the code takes them: cut, and each with its check. Assumes nothing.
use Prim.Native.Nat.{ℕ, zero, suc, ◌-◌, ◌/◌, ◌<◌}
use native.Mathlib.Omega.{arith}
use mathlib.Core.Path.{◌≡◌, refl, ap, ap₂, ◌∙◌}
use mathlib.Core.Bool.{Bool, true, ◌&&◌}
use mathlib.Core.List.{List, [], ◌∷◌}
use lib.ListN.{length, take, drop, get_or}
use lib.Seq.{take-length}
use Rattle.std.proofs.lemmas.List.{get_or-take}
use Rattle.std.specs.List.{list_all}
use Rattle.std.specs.Simd.{first_chunks}
use Rattle.model.specs.Bytes.{byte, pieces}
use Rattle.model.specs.Ledgers.{checked, header, grant_blocks, all_checked, ledger_length}
use Rattle.model.proofs.Blocks.{all_blocks}
use Rattle.model.proofs.Stands.{ledger_blocks}
use Rattle.checks.specs.Blocks.{whole_checked}
use Rattle.checks.proofs.Blocks.{whole_checked_lem}

-- the library cuts a list as the model does
pub chunks : (size count : ℕ) (l : List ℕ) → first_chunks size count l ≡ pieces size count l
unfolding pieces
chunks size zero l = refl
chunks size (suc count) l = ap (λ (ps : List (List ℕ)). take size l ∷ ps) (chunks size count (drop size l))

-- What is known of the blocks of a ledger: the first is block 0, and those of its grants follow.
pub record CutIn (bytes : List ℕ) (blocks : List (List ℕ)) : Type 0 where
  pub some : 0 < length blocks
  pub checks : all_checked blocks ≡ (checked (header bytes) && all_checked (grant_blocks bytes))
  pub first : get_or blocks 0 [] ≡ header bytes
  pub names : get_or (get_or blocks 0 []) 1 0 ≡ byte 1 bytes
  pub others : take (length blocks - 1) (drop 1 blocks) ≡ grant_blocks bytes

tail : (b : List ℕ) (bs : List (List ℕ)) → take (length (b ∷ bs) - 1) bs ≡ bs
tail b bs = let n : length (b ∷ bs) - 1 ≡ length bs = omega arith in rw n (take-length bs)

pub cut : (bytes : List ℕ) (blocks : List (List ℕ)) → ledger_length (length bytes) ≡ true → blocks ≡ pieces 512 (length bytes / 512) bytes → CutIn bytes blocks
unfolding all_checked
cut bytes blocks fits is =
    let e : blocks ≡ header bytes ∷ grant_blocks bytes = is ∙ all_blocks bytes (omega (arith, ledger_blocks (length bytes) fits)) in
    record {
      some = rw e (omega arith);
      checks = ap all_checked e;
      first = ap (λ (bs : List (List ℕ)). get_or bs 0 []) e;
      names = rw e (get_or-take 512 bytes 1 0 (omega arith));
      others = rw e (tail (header bytes) (grant_blocks bytes));
    }

-- blocks that are whole have each a check that holds
pub all_whole : (blocks : List (List ℕ)) → ((i : ℕ) → i < length blocks → length (get_or blocks i []) ≡ 512) → list_all whole_checked blocks ≡ all_checked blocks
unfolding all_checked
all_whole [] h = refl
all_whole (b ∷ bs) h = ap₂ (λ (x y : Bool). x && y) (whole_checked_lem b (h 0 (omega arith))) (all_whole bs (λ i l. h (suc i) (omega arith)))

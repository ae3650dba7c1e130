-- The form of a grant's block, one term field after another. Assumes nothing.
use mathlib.Core.Path.{◌≡◌, refl}
use mathlib.Core.Bool.{Bool, true, false, ◌&&◌, and-false}
use mathlib.Core.List.{List}
use Prim.Native.Nat.{ℕ, ◌+◌, ◌-◌}
use lib.Dec.{eqb}
use Rattle.model.specs.Bytes.{byte, field, zeros}
use Rattle.model.specs.Terms.{term_length}
use Rattle.model.specs.Ledgers.{grant_form}
use Rattle.fields.specs.Terms.{past_term}
use Rattle.ledgers.specs.Forms.{term_form}

-- three lengths, and then what follows each term: the same as each length with what follows its term
regroup : (k a b c z x y w v : Bool) → (k && (a && (b && (c && (z && (x && (y && (w && v)))))))) ≡ (k && (z && (a && x && (b && y && (c && w && v)))))
regroup false a b c z x y w v = refl
regroup true false b c z x y w v = simp and-false
regroup true true false c z x y w v = simp and-false
regroup true true true false z x y w v = simp and-false
regroup true true true true z x y w v = refl

pub grant_fields : (block : List ℕ) → grant_form block ≡ (eqb (byte 0 block) 2 && (zeros (field 4 12 block) && (term_form 1 16 block && (term_form 2 80 block && (term_form 3 144 block && zeros (field 216 294 block))))))
unfolding grant_form term_form past_term
grant_fields block =
    regroup
    (eqb (byte 0 block) 2)
    (term_length (byte 1 block))
    (term_length (byte 2 block))
    (term_length (byte 3 block))
    (zeros (field 4 12 block))
    (zeros (field (16 + byte 1 block) (64 - byte 1 block) block))
    (zeros (field (80 + byte 2 block) (64 - byte 2 block) block))
    (zeros (field (144 + byte 3 block) (64 - byte 3 block) block))
    (zeros (field 216 294 block))

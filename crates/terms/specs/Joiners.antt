-- What joins two parts, as a code and on paper. Assumes nothing: these are definitions.
use Rattle.std.specs.Prelude.{ℕ, cond, eqb, Option, Some, None}
use Rattle.model.specs.Texts as texts
use Rattle.terms.specs.declared.Joiner.{Joiner}
use Rattle.terms.specs.declared.Joiner.TheVariants.{Both, Either}

-- the joiner of document 02
abbrev pub kind : Joiner → texts.Joiner
kind Both = texts.both
kind Either = texts.either

abbrev pub joiner_code : Joiner → ℕ
joiner_code Both = 0x30
joiner_code Either = 0x31

-- the joiner whose code this is, if it is one's
abbrev pub joiner_at : ℕ → Option Joiner
joiner_at c = cond (eqb c 0x30) (Some Both) (cond (eqb c 0x31) (Some Either) None)

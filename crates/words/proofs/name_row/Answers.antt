use native.Mathlib.Omega.{arith}
use Rattle.words.proofs.Names.{name_row_high}
use Rattle.words.proofs.name_row.Goals as goal

pub returns-else-i-lt8 : goal.returns-else-i-lt8
returns-else-i-lt8 c = name_row_high _ _ _ _ (omega arith) c.name_word.ensures c.same.ensures

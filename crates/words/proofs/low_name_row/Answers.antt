use native.Mathlib.Omega.{arith}
use Rattle.words.proofs.Names.{name_row_low, name_six, name_seven}
use Rattle.words.proofs.low_name_row.Goals as goal

pub returns-in-6 : goal.returns-in-6
returns-in-6 c g low = name_six _ g c.in-6.is

pub returns-in-0-to-5 : goal.returns-in-0-to-5
returns-in-0-to-5 c g low = name_row_low _ g _ _ (omega arith) c.name_word.ensures c.same.ensures

pub returns-in_default : goal.returns-in_default
returns-in_default c g low = name_seven _ g (omega arith)

-- Which coalitions break a grant, and which keep the grants whose bits are set, on any bytes (document 01, "Grants that count"). Assumes nothing: these are
-- definitions.
use Rattle.std.specs.Prelude.{cond, not, ◌&&◌, List, [], ◌∷◌, ◌++◌, ℕ, zero, suc}
use Rattle.model.specs.Coalitions.{member, Marks}
use Rattle.model.specs.Grants.{Grant, GrantMarks, sound_of}
use Rattle.counting.specs.Counted.{grant_in}

-- the coalition breaks the grant on the side: it is one of its p there and none of its q
abbrev pub breaks : GrantMarks → Marks
breaks g s c = g.p s c && not (g.q s c)

-- of the first `grants` grants those whose bit is set
unfoldable pub chosen_in : List ℕ → ℕ → ℕ → List Grant
chosen_in ledger zero bits = []
chosen_in ledger (suc k) bits = chosen_in ledger k bits ++ cond (member k bits) (grant_in ledger k ∷ []) []

-- each of them is kept
unfoldable pub sound_in : List ℕ → ℕ → ℕ → Marks
sound_in ledger grants bits = sound_of (chosen_in ledger grants bits)

-- What a sieve leaves, and what is known of the grants (document 01, "Grants that count"). Assumes nothing: these are definitions.
use Rattle.std.specs.Prelude.{◌≡◌, Bool, true, ℕ, ◌≤◌}
use Rattle.model.specs.Sides.{Side}
use Rattle.model.specs.Coalitions.{Marks}
use Rattle.words.specs.declared.Rows.{Rows}
use Rattle.words.specs.FourWords.{RowsAt}
use Rattle.counting.specs.declared.Known.{Known}
use Rattle.counting.specs.Counted.{KnownOf, counts_at, counted_in}
use Rattle.soundness.specs.Keeping.{sound_in}
use Rattle.counting.specs.declared.Asked.{Asked}

-- every coalition is sound
abbrev pub EverySound : Marks → Type 0
EverySound S = (s : Side) (c : ℕ) → S s c ≡ true

-- the grants that count, and the coalitions that keep them
abbrev pub counts_asked : Asked → ℕ → Bool
counts_asked a = counts_at a.ledger.now a.sizes.names a.label.now a.day

abbrev pub sound_asked : Asked → Marks
sound_asked a = sound_in a.ledger.now a.sizes.grants (counted_in a.ledger.now a.sizes.names a.sizes.grants a.label.now a.day)

-- S are the sound coalitions of what is asked, and what is known of its grants is so
pub record SoundAsked (a : Asked) (known : Known) (S : Marks) : Type 0 where
  pub few : a.sizes.grants ≤ 64
  pub is : (s : Side) (c : ℕ) → S s c ≡ sound_asked a s c
  pub so : KnownOf (counts_asked a) known

-- What is left of row g is a row of f, and what is known of the grants is so, `counts` being what counts.
pub record SiftedTo (counts : ℕ → Bool) (f : Marks) (g : ℕ) (known : Known) (left : Rows) : Type 0 where
  pub rows : RowsAt f g left
  pub so : KnownOf counts known

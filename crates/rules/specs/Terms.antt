-- A step's terms by their places (document 01, "Derivations"). Assumes nothing: these are definitions.
use Rattle.std.specs.Prelude.{ℕ, List}
use Rattle.model.specs.Bytes.{byte, field}
use Rattle.fields.specs.declared.TermField.{TermField}

-- the term that stands at a place
abbrev pub term_at : TermField → List ℕ → List ℕ
term_at term step = field term.at (byte term.length step) step

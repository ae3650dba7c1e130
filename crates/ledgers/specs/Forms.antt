-- What the promises of the ledger's code cite besides the model (document 01, "The ledger"). Assumes nothing: these are definitions.
use Rattle.std.specs.Prelude.{ℕ, Bool, ◌&&◌, List}
use Rattle.model.specs.Bytes.{byte}
use Rattle.model.specs.Terms.{term_length}
use Rattle.fields.specs.Terms.{past_term}

-- byte k is the length of the term that begins at `at`, and the rest of its field of 64 bytes is filler
unfoldable pub term_form : ℕ → ℕ → List ℕ → Bool
term_form k at block = term_length (byte k block) && past_term k at block

-- The voice of document 01, which the gap took the place of (document 02, K6), and who counted by it. No answer of a call depends on this file.
-- Assumes nothing: these are definitions.
use Rattle.std.specs.Prelude.{ℕ, Bool, true, ◌&&◌}
use Rattle.model.specs.Sides.{confidentiality, integrity}
use Rattle.model.specs.Coalitions.{Marks, within}
use Rattle.model.specs.Terms.{held}
use Rattle.model.specs.Dates.{in_days}
use Rattle.model.specs.Grants.{Grant, Under, visible}

-- where the voice of q is held
unfoldable pub voice : Marks → Marks
voice q confidentiality c = true
voice q integrity c = q confidentiality c && q integrity c

-- a grant labelled d, of what q may do, was spoken
unfoldable pub spoken_by_voice : ℕ → Marks → Marks → Bool
spoken_by_voice n q d = within n (d integrity) (voice q integrity)

-- and it counted
unfoldable pub counted_by_voice : Under → Grant → Bool
counted_by_voice u g = in_days g.first g.last u.day && (visible u.names (held u.label) (held g.label) && spoken_by_voice u.names (held g.q) (held g.label))

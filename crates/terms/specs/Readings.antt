-- What each case of the readers' answers stands for, in the words of document 01, "Terms". Assumes nothing: these are definitions.
use Rattle.std.specs.Prelude.{ℕ, ◌-◌, List, length, drop}
use Rattle.model.specs.Readings.{Reading, accepted, refused}
use Rattle.model.specs.Terms.{Code, whole, one, two, many, none, Front, found, stopped, read_all, read_front}
use Rattle.terms.specs.declared.Shape.{Shape}
use Rattle.terms.specs.declared.Shape.TheVariants.{Whole, One, Two, Other}

-- how many parts a code asks for
abbrev pub shape_of : Code → Shape
shape_of (whole t) = Whole
shape_of (one f) = One
shape_of (two f) = Two
shape_of many = Other
shape_of none = Other

-- of a list of `len` codes: the place of the code after what was read, or the refusal
abbrev pub place_of : {A : Type 0} → ℕ → Front A → Reading ℕ
place_of len (found t rest) = accepted (len - length rest)
place_of len (stopped r) = refused r

-- what reading one term from place `at` on gives
unfoldable pub part_at : List ℕ → ℕ → ℕ → Reading ℕ
part_at s at n = place_of (length s) (read_front n (drop at s))

-- m terms
unfoldable pub parts_at : List ℕ → ℕ → ℕ → ℕ → Reading ℕ
parts_at s at n m = place_of (length s) (read_all (read_front n) m (drop at s))

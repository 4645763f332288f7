-- What ends a line. Definitions only.
use Rattle.std.specs.Prelude.{ℕ, Bool, true, List, [], ◌∷◌, Option, Some}

-- the line feed that ended a line, if one did
abbrev pub feed_of : Option Bool → List ℕ
feed_of (Some true) = 10 ∷ []
feed_of ended = []

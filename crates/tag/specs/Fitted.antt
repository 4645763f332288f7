-- Bytes that may be too many for a tag. Definitions only.
use Rattle.std.specs.Prelude.{◌≡◌, true, false, Option, MatchOption}
use Rattle.tag.specs.declared.Tag.{Tag as Label}
use Rattle.tag.specs.Tags.{Tag, overlong}
use Rattle.tag.specs.View.{Made}

-- the tag of these bytes, where they fit one
abbrev pub Fitted : Tag → Option Label → Type 0
Fitted t r = MatchOption r (overlong t ≡ true) (λ l. (overlong t ≡ false) × Made t l)

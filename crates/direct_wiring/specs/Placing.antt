-- One place of a tag's list written in the bytes of a model. Definitions only.
use Rattle.std.specs.Prelude.{ℕ, ◌+◌, ◌*◌, ◌<◌, min, ◌≡◌, Bool, true, false, List, Some}
use Rattle.tag.specs.Tags.{Tag}
use Rattle.model.specs.Model.{Place}
use Rattle.layout.specs.Words.{word}
use Rattle.finding.specs.Rows.{list_place_at, RowSought}
use Rattle.direct_rows.specs.Rows.{PutPlace}

-- a row of the lists is the tag's, and its place p, which it has, became q
pub record PlacedIn (tag : Tag) (p : ℕ) (q : Place) (s t : List ℕ) : Type 0 where
  pub row : ℕ
  pub sought : RowSought s list_place_at (min (word s 16) 128) tag (Some row)
  pub within : p < word s (5736 + 168 * row)
  pub put : PutPlace row p q s t

-- so where r is a yes; else nothing is changed
pub record PlacesIn (tag : Tag) (p : ℕ) (q : Place) (s t : List ℕ) (r : Bool) : Type 0 where
  pub placed : r ≡ true → PlacedIn tag p q s t
  pub left : r ≡ false → t ≡ s

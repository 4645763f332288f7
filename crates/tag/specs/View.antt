-- What the record of a tag means. Definitions only.
use Rattle.std.specs.Prelude.{◌≡◌, Bool, true, ◌-◌, leb, take, drop, replicate}
use Rattle.tag.specs.declared.Tag.{Tag as Label}
use Rattle.tag.specs.Tags.{Tag}

-- a tag is the first `len` of its bytes
unfoldable pub bytes_of : Label → Tag
bytes_of t = take t.len t.bytes

-- the length that the record names is within its size
unfoldable pub tag_fits : Label → Bool
tag_fits t = leb t.len 32

-- the record holds these bytes
pub record Labelled (t : Tag) (r : Label) : Type 0 where
  pub bytes : bytes_of r ≡ t
  pub short : tag_fits r ≡ true

-- the record made of these bytes: the rest of it is 0
pub record Made (t : Tag) (r : Label) : Type 0 where
  pub labelled : Labelled t r
  pub padded : drop r.len r.bytes ≡ replicate (32 - r.len) 0

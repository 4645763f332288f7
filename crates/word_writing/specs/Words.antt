-- What docs/PROTOCOL.md calls BITS, TAG and `-`, as bytes. Definitions only.
use Rattle.std.specs.Prelude.{ℕ, zero, suc, ◌/◌, ◌%◌, false, List, [], ◌∷◌, ◌++◌, Option, None, Some, codes}
use Rattle.std.specs.List.{flat_map}
use Rattle.std.specs.Fmt.{digit_glyph}
use Rattle.tag.specs.declared.Tag.{Tag as Label}
use Rattle.tag.specs.Tags.{Tag}
use Rattle.tag.specs.View.{bytes_of}

-- the last k hexadecimal digits of n, in lower case
unfoldable pub hex : ℕ → ℕ → List ℕ
hex zero n = []
hex (suc k) n = hex k (n / 16) ++ (digit_glyph false (n % 16) ∷ [])

-- BITS: 16 hexadecimal digits
abbrev pub bits_word : ℕ → List ℕ
bits_word n = hex 16 n

-- TAG: two hexadecimal digits a byte; `.` for the empty one
abbrev pub tag_word : Tag → List ℕ
tag_word [] = codes "."
tag_word (b ∷ t) = flat_map (hex 2) (b ∷ t)

-- a place: the tag that it names, or `-` for none
abbrev pub place_word : Option Label → List ℕ
place_word None = codes "-"
place_word (Some t) = tag_word (bytes_of t)

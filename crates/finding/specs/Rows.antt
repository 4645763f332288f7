-- Rows of a model in bytes: where they begin, what they hold, and what is found in them. Definitions only.
use Rattle.std.specs.Prelude.{ℕ, ◌+◌, ◌-◌, ◌*◌, ◌≤◌, ◌<◌, ◌≡◌, ◌≢◌, ◌⊎◌, min, List, length, take, drop, Option as Answer, IfSome, IfNone}
use Rattle.std.proofs.Math.Option.{Option}
use Rattle.tag.specs.Tags.{Tag}
use Rattle.component.specs.declared.model_component.Component.{Component}
use Rattle.layout.specs.Words.{word, text}
use Rattle.component_layout.specs.Components.{component_from}
use Rattle.component_layout.specs.declared.component_numbers.Numbered.{Numbered}
use Rattle.rows.specs.Rows.{six_in}
use Rattle.finding.specs.declared.Table.{Table}
use Rattle.finding.specs.declared.Table.TheVariants.{Components, Lists}

-- where the first row of a table begins, and the bytes of a row
abbrev pub start : Table → ℕ
start Components = 64
start Lists = 5696

abbrev pub size : Table → ℕ
size Components = 88
size Lists = 168

-- where a row begins
abbrev pub row_at : Table → ℕ → ℕ
row_at table i = start table + size table * i

abbrev pub component_at : ℕ → ℕ
component_at i = 64 + 88 * i

abbrev pub list_place_at : ℕ → ℕ
list_place_at j = 5696 + 168 * j

-- how many rows are counted, as far as the table goes
abbrev pub counted : Table → List ℕ → ℕ
counted Components s = min (word s 8) 64
counted Lists s = min (word s 16) 128

-- the component of six words
abbrev pub from_six : Numbered ℕ → Option Component
from_six w = component_from w.kind w.a w.b w.c w.d w.e

-- the component in the row i
unfoldable pub component_row : List ℕ → ℕ → Option Component
component_row s i = from_six (six_in s (104 + 88 * i))

-- the tag in the row i of the components
abbrev pub tag_of : List ℕ → ℕ → Tag
tag_of s i = text s (component_at i)

-- the row of the tag t among the first n, which begin at `at`
pub record RowSought (s : List ℕ) (at : ℕ → ℕ) (n : ℕ) (t : Tag) (row : Answer ℕ) : Type 0 where
  pub found : IfSome row (λ r. (r < n) × (text s (at r) ≡ t))
  pub missing : IfNone row ((i : ℕ) → i < n → text s (at i) ≢ t)

-- the place at byte `at` is assigned, and t is its tag
pub record Tagged (s : List ℕ) (at : ℕ) (t : Tag) : Type 0 where
  pub assigned : 0 < word s at
  pub few : word s at ≤ 33
  pub is : t ≡ take (word s at - 1) (drop (at + 8) s)

-- the place at byte `at` is unassigned, or its bytes are more than a tag's or go past the end
abbrev pub Untagged : List ℕ → ℕ → Type 0
Untagged s at = (word s at ≡ 0) ⊎ (33 < word s at) ⊎ (length s < at + 7 + word s at)

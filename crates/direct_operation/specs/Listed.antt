-- A component added with its list, in the bytes of a model. Definitions only.
use Rattle.std.specs.Prelude.{ℕ, ◌<◌, min, ◌≡◌, List, Option, Some, None}
use Rattle.tag.specs.declared.Tag.{Tag as Label}
use Rattle.tag.specs.View.{bytes_of}
use Rattle.component.specs.declared.model_component.Component.{Component}
use Rattle.model.specs.declared.implicit_model.InputList.{InputList}
use Rattle.layout.specs.Words.{word}
use Rattle.rows.specs.Rows.{places_of}
use Rattle.direct_operation.specs.Put.{RowFor, OperationPut}

-- the rows of an operation written, after those counted
pub record RowsMore (c : Component) (l : InputList) (d : Label) (s u : List ℕ) : Type 0 where
  pub row : ℕ
  pub counted : row ≡ min (word s 8) 64
  pub room : row < 64
  pub list : ℕ
  pub chosen : RowFor s (bytes_of l.tag) (Some list)
  pub put : OperationPut row list (bytes_of l.tag) c (places_of l.count l) (bytes_of d) s u

-- so for the tag that is added; else nothing is changed
abbrev pub Listed : Component → InputList → Label → List ℕ → List ℕ → Option Label → Type 0
Listed c l d s u (Some r) = (r ≡ l.tag) × RowsMore c l d s u
Listed c l d s u None = u ≡ s

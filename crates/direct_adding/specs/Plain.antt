-- One component more in the bytes of a model, and what the edits promise that are defined by `add_plain`. Definitions only.
use Rattle.std.specs.Prelude.{ℕ, ◌<◌, min, ◌≡◌, true, List, Option, Some, None}
use Rattle.tag.specs.declared.Tag.{Tag as Label}
use Rattle.tag.specs.Tags.{Tag}
use Rattle.tag.specs.View.{bytes_of}
use Rattle.component.specs.declared.model_component.Component.{Component}
use Rattle.model.specs.Model.{Model}
use Rattle.model.specs.Edit.{Edit, edit, add_plain}
use Rattle.layout.specs.Words.{word}
use Rattle.direct_rows.specs.Took.{Makes}
use Rattle.direct_adding.specs.Put.{More}

-- the row of a component written, after those counted
pub record RowMore (t : Label) (c : Component) (d : Label) (s u : List ℕ) : Type 0 where
  pub row : ℕ
  pub counted : row ≡ min (word s 8) 64
  pub room : row < 64
  pub put : More row (bytes_of t) c (bytes_of d) s u

-- so for the tag that is added; else nothing is changed
abbrev pub Grew : Label → Component → Label → List ℕ → List ℕ → Option Label → Type 0
Grew t c d s u (Some r) = (r ≡ t) × RowMore t c d s u
Grew t c d s u None = u ≡ s

-- what both edits promise that are defined by `add_plain`, of a component of the kind that is asked for
abbrev pub Plainly : Tag → Component → List ℕ → List ℕ → Option Label → Type 0
Plainly t c s u r = (e : Edit) → ((m : Model) → edit e m ≡ add_plain m t c true) → Makes e s u r

-- Free tags among the components in the bytes of a model. Definitions only.
use Rattle.std.specs.Prelude.{◌≡◌, Bool, not, List, ℕ, T, Option}
use Rattle.std.proofs.Math.Option.{some}
use Rattle.tag.specs.declared.Tag.{Tag as Label}
use Rattle.tag.specs.Tags.{Tag}
use Rattle.model.specs.Table.{held}
use Rattle.model.specs.Model.{Model, valid}
use Rattle.model_bytes.specs.ModelBytes.{model_in}
use Rattle.adding_component.specs.Free.{FreeTag}

-- no component has the tag t, where 7 lets the model in s pass
abbrev pub FreeIn : List ℕ → Tag → Bool → Type 0
FreeIn s t r = (m : Model) → model_in s ≡ some m → T (valid m) → r ≡ not (held t m.components)

-- the first free tag, if it fits
abbrev pub FirstFreeIn : List ℕ → Tag → Option Label → Type 0
FirstFreeIn s t r = (m : Model) → model_in s ≡ some m → T (valid m) → FreeTag m.components t r

-- The tag that `add_component` makes. Definitions only.
use Rattle.std.specs.Prelude.{◌≡◌, ◌⊎◌, true, Option, MatchOption}
use Rattle.std.proofs.Math.Option.{none, some}
use Rattle.tag.specs.declared.Tag.{Tag as Label}
use Rattle.tag.specs.Tags.{Tag, overlong}
use Rattle.tag.specs.View.{bytes_of, tag_fits}
use Rattle.component.specs.declared.model_component.Component.{Component}
use Rattle.model.specs.declared.implicit_model.Model.{Model as Record}
use Rattle.model.specs.Table.{Table}
use Rattle.model.specs.Edit.{free_tag}
use Rattle.model.specs.View.{passes}

-- a model that 7 lets pass, and a tag within its size
pub record Nameable (m : Record) (t : Label) : Type 0 where
  pub passing : passes m ≡ true
  pub short : tag_fits t ≡ true

-- the first free tag, if it fits
abbrev pub FreeTag : Table Component → Tag → Option Label → Type 0
FreeTag cs t r =
    MatchOption r ((free_tag cs t ≡ none) ⊎ ((u : Tag) × (free_tag cs t ≡ some u) × (overlong u ≡ true)))
    (λ u. (free_tag cs t ≡ some (bytes_of u)) × (tag_fits u ≡ true))

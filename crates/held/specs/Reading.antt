-- What a new record holds, and what the reading calls answer. Definitions only.
use Rattle.std.specs.Prelude.{◌≡◌, true, List, Option, Some, None}
use Rattle.std.proofs.Math.Option.{Option as Maybe, none, some}
use Rattle.tag.specs.Tags.{Tag}
use Rattle.component.specs.declared.model_component.Component.{Component}
use Rattle.model.specs.declared.implicit_model.ComponentEntry.{ComponentEntry}
use Rattle.model.specs.declared.implicit_model.InputList.{InputList}
use Rattle.model.specs.declared.implicit_model.Model.{Model as Record}
use Rattle.model.specs.Model.{Place, new}
use Rattle.model.specs.View.{component_of, list_of, view, passes}

-- a record of the new model, which 7 lets pass
pub record New (m : Record) : Type 0 where
  pub holds : view m ≡ new
  pub passing : passes m ≡ true

-- a component, or none
abbrev pub component_read : Option Component → Maybe Component
component_read (Some c) = some c
component_read None = none

-- a tag and its component, or none
unfoldable pub entry_read : Option ComponentEntry → Maybe (Tag × Component)
entry_read (Some e) = some (component_of e)
entry_read None = none

-- a tag and its places, or none
unfoldable pub list_read : Option InputList → Maybe (Tag × List Place)
list_read (Some l) = some (list_of l)
list_read None = none

-- the places alone
unfoldable pub places_read : Option InputList → Maybe (List Place)
places_read (Some l) = some (list_of l).1
places_read None = none

-- What 7 asks of the default: of the record, and of the place that it holds. Definitions only.
use Rattle.std.specs.Prelude.{Bool, ◌&&◌}
use Rattle.component.specs.declared.model_component.Component.{Component}
use Rattle.model.specs.Table.{Table}
use Rattle.model.specs.Model.{named}
use Rattle.model.specs.View.{PlaceRecord, place_of, place_fits}

abbrev pub default_sound : Table Component → PlaceRecord → Bool
default_sound cs p = place_fits p && named cs (place_of p)

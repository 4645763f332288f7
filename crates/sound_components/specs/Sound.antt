-- What 7 asks of a component: of the record, and of the component that it holds. Definitions only.
use Rattle.std.specs.Prelude.{Bool, ◌&&◌, List}
use Rattle.model.specs.declared.implicit_model.ComponentEntry.{ComponentEntry}
use Rattle.model.specs.Table.{Table}
use Rattle.model.specs.Model.{Place, listed}
use Rattle.model.specs.View.{component_of, entry_fits}

abbrev pub entry_sound : Table (List Place) → ComponentEntry → Bool
entry_sound ls e = entry_fits e && listed ls (component_of e)

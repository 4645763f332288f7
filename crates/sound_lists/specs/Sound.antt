-- What 7 asks of an input list: of the record, and of the list that it holds. Definitions only.
use Rattle.std.specs.Prelude.{Bool, ◌&&◌}
use Rattle.model.specs.declared.implicit_model.InputList.{InputList}
use Rattle.model.specs.Model.{good_list}
use Rattle.model.specs.View.{list_of, list_fits}

abbrev pub list_sound : InputList → Bool
list_sound l = list_fits l && good_list (list_of l)

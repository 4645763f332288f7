-- A list with one place replaced; a position past the places' end changes nothing. Definitions only.
use Rattle.std.specs.Prelude.{ℕ, set}
use Rattle.model.specs.declared.implicit_model.InputList.{InputList}
use Rattle.model.specs.View.{PlaceRecord}

abbrev pub placed_at : InputList → ℕ → PlaceRecord → InputList
placed_at l i p = record { tag = l.tag; count = l.count; places = set l.places i p }

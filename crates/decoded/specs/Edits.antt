-- An edit that a closure makes. Definitions only.
use Rattle.model.specs.Edit.{Edit}
use Rattle.model.specs.declared.implicit_model.Model.{Model as Record}
use Rattle.edit.specs.declared.Edited.{Edited}
use Rattle.edit.specs.Meets.{Meets}

-- every call that these outcomes may come of makes the edit e
abbrev pub Edits : Edit → (Record → Edited → Type 0) → Type 0
Edits e outcome = (m : Record) (x : Edited) → outcome m x → Meets e m x

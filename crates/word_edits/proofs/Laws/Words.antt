-- Edits made of words. Assumes nothing.
use mathlib.Core.Path.{◌≡◌, subst}
use Rattle.model.specs.declared.implicit_model.Model.{Model as Record}
use Rattle.model.specs.Edit.{Edit}
use Rattle.edit.specs.declared.Edited.{Edited}
use Rattle.edit.specs.Meets.{Meets}

-- the same edit
pub meets_as : {f e : Edit} {m : Record} {r : Edited} → f ≡ e → Meets f m r → Meets e m r
meets_as {m = m} {r = r} q h = subst (λ (x : Edit). Meets x m r) q h

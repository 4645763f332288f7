-- An edit that is no rename leaves the target's tag. Assumes nothing.
use mathlib.Core.Path.{◌≡◌, refl}
use denote.Ref.{Bor}
use Rattle.tag.specs.Tags.{Tag}
use Rattle.model.specs.Edit.{Answer}
use Rattle.edit_rows.specs.declared.edit_row.Change.{Change}
use Rattle.edit_rows.specs.declared.edit_row.Change.TheVariants.{AddOperation, AddConstant, AddFunction, AddComponent, AddInput, RemoveInput, RemoveComponent, RenameComponent, SetParameter}
use Rattle.edit_rows.specs.Changes.{edit_of}
use Rattle.newest.specs.Carried.{carried}

pub stays : (change : Change) → ((old new : Bor Tag) → change ≡ RenameComponent old new → ⊥) → (a : Answer) (t : Tag) → carried (edit_of change) a t ≡ t
unfolding carried
stays (AddOperation tag c inputs) n a t = refl
stays (AddConstant tag x) n a t = refl
stays (AddFunction tag c) n a t = refl
stays (AddComponent tag c) n a t = refl
stays (AddInput target source i) n a t = refl
stays (RemoveInput tag i) n a t = refl
stays (RemoveComponent tag) n a t = refl
stays (RenameComponent old new) n a t = absurd (n old new refl)
stays (SetParameter tag name d) n a t = refl

-- The edit that a change of the code is. Definitions only.
use Rattle.std.specs.Prelude.{Option as Found, Some, None}
use Rattle.std.proofs.Math.Option.{Option, none, some}
use Rattle.model.specs.Edit.{Edit, add_operation, add_constant, add_function, add_component, add_input, remove_input, remove_component, rename_component, set_parameter}
use Rattle.input_rows.specs.Inputs.{inputs_of}
use Rattle.edit_rows.specs.declared.edit_row.Change.{Change}
use Rattle.edit_rows.specs.declared.edit_row.Change.TheVariants.{AddOperation, AddConstant, AddFunction, AddComponent, AddInput, RemoveInput, RemoveComponent, RenameComponent, SetParameter}

abbrev pub edit_of : Change → Edit
edit_of (AddOperation tag c inputs) = add_operation tag.now c (inputs_of inputs)
edit_of (AddConstant tag x) = add_constant tag.now x
edit_of (AddFunction tag c) = add_function tag.now c
edit_of (AddComponent tag c) = add_component tag.now c
edit_of (AddInput target source i) = add_input target.now source.now i
edit_of (RemoveInput tag i) = remove_input tag.now i
edit_of (RemoveComponent tag) = remove_component tag.now
edit_of (RenameComponent old new) = rename_component old.now new.now
edit_of (SetParameter tag name d) = set_parameter tag.now name.now d

-- what the code found
abbrev pub change_read : Found Change → Option Edit
change_read (Some c) = some (edit_of c)
change_read None = none

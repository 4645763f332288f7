-- The word by which a line names each command.
use Rattle.std.specs.Prelude.{ℕ, List, codes}
use Rattle.protocol.specs.declared.command.Change.{Change}
use Rattle.protocol.specs.declared.command.Change.TheVariants.{AddConstant, AddFunction, AddOperation, AddComponent, AddInput, RemoveInput, RemoveComponent, RenameComponent, SetParameter}
use Rattle.protocol.specs.declared.command.Question.{Question}
use Rattle.protocol.specs.declared.command.Question.TheVariants.{Compile, EvaluateAt, Dump, Operate}
use Rattle.protocol.specs.declared.command.Command.{Command}
use Rattle.protocol.specs.declared.command.Command.TheVariants.{New, Load, Change as change, Ask}

abbrev pub change_name : Change → List ℕ
change_name (AddConstant tag value) = codes "add_constant"
change_name (AddFunction tag function) = codes "add_function"
change_name (AddOperation tag operation inputs) = codes "add_operation"
change_name (AddComponent tag component) = codes "add_component"
change_name (AddInput target source index) = codes "add_input"
change_name (RemoveInput tag index) = codes "remove_input"
change_name (RemoveComponent tag) = codes "remove_component"
change_name (RenameComponent old new) = codes "rename_component"
change_name (SetParameter tag name value) = codes "set_parameter"

abbrev pub question_name : Question → List ℕ
question_name (Compile target) = codes "compile"
question_name (EvaluateAt target at) = codes "evaluate_at"
question_name Dump = codes "dump"
question_name (Operate operator) = codes "vec3"

abbrev pub name_of : Command → List ℕ
name_of New = codes "new"
name_of (Load words) = codes "load"
name_of (change edit) = change_name edit
name_of (Ask question) = question_name question

-- `add_operation` meets its contract. Assumes nothing.
use mathlib.Core.Path.{ap}
use Rattle.component.specs.declared.model_component.Component.{Component}
use Rattle.model.specs.Edit.{add_operation}
use Rattle.input_rows.specs.Inputs.{inputs_of}
use Rattle.word_edits.proofs.Laws.Words.{meets_as}
use Rattle.storing.proofs.Laws.Stored.{called, called_7}
use Rattle.decoded.proofs.additions.add_operation.Goals as goal

pub returns-in-Ok : goal.returns-in-Ok
returns-in-Ok c =
    let same = ap (λ (j : Component). add_operation c.args.tag.now j (inputs_of c.args.inputs)) c.operation_of.ensures in
    called _ _ c.in-Ok.m c.in-Ok.ensures (meets_as same c.add_operation-edited.ensures) c.store.ensures

pub returns-in-Err : goal.returns-in-Err
returns-in-Err c = called_7 _ _ c.in-Err.ensures.0 c.in-Err.ensures.1 c.tell.ensures

-- `dw_add_operation` meets its contract. Assumes nothing.
use mathlib.Core.Path.{ap}
use Rattle.component.specs.declared.model_component.Component.{Component}
use Rattle.model.specs.Edit.{add_operation}
use Rattle.input_rows.specs.Inputs.{inputs_of}
use Rattle.direct_words.proofs.Laws.Direct.{took_as, taken_made, not_made}
use Rattle.adding_operation_calls.proofs.dw_add_operation.Goals as goal

pub returns-in-Some : goal.returns-in-Some
returns-in-Some c =
    taken_made (took_as (ap (λ (k : Component). add_operation c.args.tag.now k (inputs_of c.args.inputs)) c.operation_of-op.ensures) c.in-Some.ensures) c.tell.ensures

pub returns : goal.returns
returns c = not_made c.in_default.ensures c.add_operation.ensures

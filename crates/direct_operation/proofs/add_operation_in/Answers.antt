-- `direct_operation::add_operation_in` meets its contract. Assumes nothing.
use mathlib.Core.Path.{sym, ap, ◌∙◌}
use Rattle.input_rows.specs.Inputs.{fitting}
use Rattle.direct_rows.proofs.Laws.Parts.{whole}
use Rattle.direct_rows.proofs.Laws.Found.{component-missing, unsought}
use Rattle.standing.proofs.Laws.Checks.{fitted}
use Rattle.direct_operation.proofs.Laws.Operation.{asked_row, operation_listed}
use Rattle.direct_operation.proofs.add_operation_in.Goals as goal

pub returns : goal.returns
returns c =
    let a = c.args in
    let made = fitted c.try_from.result c.try_from.ensures c.in_ok-t.ensures.value in
    let k = c.stands.ensures c.if-not-stands.false in
    let short = sym c.too_long.ensures ∙ c.if-too_long.false in
    let fit = sym c.inputs_fit.ensures ∙ c.if-not-inputs_fit.false in
    operation_listed a.tag.now a.c a.inputs _ k made.0 short (sym c.is_operation.ensures ∙ c.if-not-is_operation.false) (ap (fitting a.inputs) (sym c.input_count-k.ensures) ∙ fit) _ made.1.labelled
    (component-missing (whole k.is) (unsought c.row_of.result c.row_of.ensures c.is_some.ensures c.if-is_some.false)) _ _ (asked_row a.c a.inputs _ c.input_count-k.ensures short fit c.operation_row.ensures) c.add_listed_in.ensures

-- `adding_operation::add_operation_to` meets its contract. Assumes nothing.
use native.Mathlib.Omega.{arith}
use mathlib.Core.Path.{sym, ap, ◌∙◌, subst}
use Prim.Native.Nat.{ℕ}
use Rattle.edit.proofs.Laws.Step.{stays, handed_on, becomes, meets_7}
use Rattle.input_rows.specs.Inputs.{fitting, asked, RowOf}
use Rattle.input_rows.proofs.Laws.Inputs.{asked-short}
use Rattle.adding_operation.proofs.Laws.Operation.{few_inputs, op_1, op_1_inputs, op_4, op_11, op_2, op_listed}
use Rattle.adding_operation.proofs.add_operation_to.Goals as goal

pub returns-in_err-check : goal.returns-in_err-check
returns-in_err-check c = meets_7 c.in_err-check.ensures.judged.0 (handed_on _ c.from_residual.ensures.1 c.in_err-check.ensures.judged.1)

pub returns-in_err-tag : goal.returns-in_err-tag
returns-in_err-tag c =
    let a = c.args in op_1 a.m.now a.tag.now a.c a.inputs _ c.in_ok-check.ensures.judged c.in_err-tag.ensures (becomes c.from_residual-in_err-tag.ensures.1)

pub returns-then-too_long : goal.returns-then-too_long
returns-then-too_long c =
    let a = c.args in
    op_1_inputs a.m.now a.tag.now a.c a.inputs _ c.in_ok-check.ensures.judged c.in_ok-tag.ensures.0 (sym c.if-too_long.true ∙ c.too_long.ensures) (stays c.plain.ensures)

pub returns-then-not-is_operation : goal.returns-then-not-is_operation
returns-then-not-is_operation c =
    let a = c.args in
    op_4 a.m.now a.tag.now a.c a.inputs _ c.in_ok-check.ensures.judged c.in_ok-tag.ensures.0 (sym c.if-too_long.false ∙ c.too_long.ensures) _ c.in_ok-tag.ensures.1.labelled
    (sym c.is_operation.ensures ∙ c.if-not-is_operation.true) (stays c.of.ensures)

pub returns-in_err-check_free : goal.returns-in_err-check_free
returns-in_err-check_free c =
    let a = c.args in
    op_11 a.m.now a.tag.now a.c a.inputs _ c.in_ok-check.ensures.judged c.in_ok-tag.ensures.0 (sym c.if-too_long.false ∙ c.too_long.ensures) _ c.in_ok-tag.ensures.1.labelled
    (sym c.is_operation.ensures ∙ c.if-not-is_operation.false) c.in_err-check_free.ensures.0 (handed_on _ c.from_residual-in_err-check_free.ensures.1 c.in_err-check_free.ensures.1)

pub returns-then-not-inputs_fit : goal.returns-then-not-inputs_fit
returns-then-not-inputs_fit c =
    let a = c.args in
    op_2 a.m.now a.tag.now a.c a.inputs _ c.in_ok-check.ensures.judged c.in_ok-tag.ensures.0 (sym c.if-too_long.false ∙ c.too_long.ensures) _ c.in_ok-tag.ensures.1.labelled
    (sym c.is_operation.ensures ∙ c.if-not-is_operation.false) c.in_ok-check_free.ensures
    ((ap (fitting a.inputs) (sym c.input_count-k.ensures) ∙ sym c.inputs_fit.ensures) ∙ c.if-not-inputs_fit.true) (stays c.of-then-not-inputs_fit.ensures)

pub returns : goal.returns
returns c =
    let a = c.args in
    op_listed a.m.now a.tag.now a.c a.inputs _ c.in_ok-check.ensures.judged c.in_ok-tag.ensures.0 (sym c.if-too_long.false ∙ c.too_long.ensures) _ c.in_ok-tag.ensures.1.labelled
    (sym c.is_operation.ensures ∙ c.if-not-is_operation.false) c.in_ok-check_free.ensures
    ((ap (fitting a.inputs) (sym c.input_count-k.ensures) ∙ sym c.inputs_fit.ensures) ∙ c.if-not-inputs_fit.false) c.in_ok-check.ensures.sizes.0 c.in_ok-check.ensures.sizes.1 _
    (subst (λ (i : ℕ). RowOf c.in_ok-tag.tag (asked a.inputs i) c.operation_row.result) c.input_count-k.ensures
    (c.operation_row.ensures (omega (arith, few_inputs a.c, c.input_count-k.ensures)) (asked-short a.inputs _ (sym c.too_long.ensures ∙ c.if-too_long.false) (sym c.inputs_fit.ensures ∙ c.if-not-inputs_fit.false) (omega (arith, few_inputs a.c, c.input_count-k.ensures)))))
    c.add_listed.ensures

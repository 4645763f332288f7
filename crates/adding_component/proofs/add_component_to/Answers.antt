-- `adding_component::add_component_to` meets its contract. Assumes nothing.
use native.Mathlib.Omega.{arith}
use mathlib.Core.Path.{sym, ◌∙◌, subst}
use mathlib.Core.Option.{none}
use Prim.Native.Nat.{ℕ}
use lib.ListN.{replicate}
use Rattle.edit.proofs.Laws.Step.{handed_on, becomes, unmade, meets_7}
use Rattle.input_rows.specs.Inputs.{RowOf}
use Rattle.adding_operation.proofs.Laws.Operation.{few_inputs}
use Rattle.adding_component.proofs.Laws.Component.{add_1, add_17, add-plain, add_operation}
use Rattle.adding_component.proofs.add_component_to.Goals as goal

pub returns-in_err-check : goal.returns-in_err-check
returns-in_err-check c = meets_7 c.in_err-check.ensures.judged.0 (handed_on _ c.from_residual.ensures.1 c.in_err-check.ensures.judged.1)

pub returns-in_err-asked : goal.returns-in_err-asked
returns-in_err-asked c =
    let a = c.args in add_1 a.m.now a.tag.now a.c _ c.in_ok-check.ensures.judged c.in_err-asked.ensures (becomes c.from_residual-in_err-asked.ensures.1)

pub returns-in_err-tag : goal.returns-in_err-tag
returns-in_err-tag c =
    let a = c.args in
    add_17 a.m.now a.tag.now a.c _ c.in_ok-check.ensures.judged c.in_ok-asked.ensures.0 _ c.in_ok-asked.ensures.1.labelled _ c.free_tag.ensures c.in_err-tag.ensures.ok_part
    (handed_on _ c.from_residual-in_err-tag.ensures.1 (unmade _ _ c.in_err-tag.ensures.value c.of.ensures))

pub returns-then-not-is_operation : goal.returns-then-not-is_operation
returns-then-not-is_operation c =
    let a = c.args in
    add-plain a.m.now a.tag.now a.c _ c.in_ok-check.ensures.judged c.in_ok-asked.ensures.0 _ c.in_ok-asked.ensures.1.labelled _ c.free_tag.ensures _ c.in_ok-tag.ensures.ok_part c.in_ok-check.ensures.sizes.0
    (sym c.is_operation.ensures ∙ c.if-not-is_operation.true) c.add_more.ensures

pub returns : goal.returns
returns c =
    let a = c.args in
    add_operation a.m.now a.tag.now a.c _ c.in_ok-check.ensures.judged c.in_ok-asked.ensures.0 _ c.in_ok-asked.ensures.1.labelled _ c.free_tag.ensures _ c.in_ok-tag.ensures.ok_part c.in_ok-check.ensures.sizes.0
    (sym c.is_operation.ensures ∙ c.if-not-is_operation.false) c.in_ok-check.ensures.sizes.1 _
    (subst (λ (i : ℕ). RowOf c.in_ok-tag.tag (replicate i none) c.unassigned_row.result) c.input_count.ensures (c.unassigned_row.ensures (omega (arith, few_inputs a.c, c.input_count.ensures))))
    c.add_listed.ensures

-- `direct_component::add_component_in` meets its contract. Assumes nothing.
use mathlib.Core.Path.{sym, ◌∙◌}
use Rattle.standing.proofs.Laws.Checks.{fitted}
use Rattle.direct_component.proofs.Laws.Component.{unassigned, component-more, component-listed}
use Rattle.direct_component.proofs.add_component_in.Goals as goal

pub free_tag_in-requires : goal.free_tag_in-requires
free_tag_in-requires c = (fitted c.try_from.result c.try_from.ensures c.in_ok-t.ensures.value).1.labelled.short

pub returns-then-not-is_operation : goal.returns-then-not-is_operation
returns-then-not-is_operation c =
    let a = c.args in
    let made = fitted c.try_from.result c.try_from.ensures c.in_ok-t.ensures.value in
    component-more a.tag.now a.c (c.stands.ensures c.if-not-stands.false) made.0 _ made.1.labelled _ c.in_ok-u.ensures _ _ (sym c.is_operation.ensures ∙ c.if-not-is_operation.true) c.add_more_in.ensures

pub returns : goal.returns
returns c =
    let a = c.args in
    let made = fitted c.try_from.result c.try_from.ensures c.in_ok-t.ensures.value in
    component-listed a.tag.now a.c (c.stands.ensures c.if-not-stands.false) made.0 _ made.1.labelled _ c.in_ok-u.ensures _ _ (sym c.is_operation.ensures ∙ c.if-not-is_operation.false) _
    (unassigned a.c _ c.input_count.ensures c.unassigned_row-row.ensures) c.add_listed_in.ensures

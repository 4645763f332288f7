-- `tagged_data` meets its contract. Assumes nothing.
use mathlib.Core.Path.{sym, ap, ◌∙◌}
use Rattle.tag.specs.Tags.{Tag}
use Rattle.held.specs.Reading.{component_read}
use Rattle.model.specs.Edit.{refused}
use Rattle.model.specs.Model.{component}
use Rattle.model.specs.View.{view}
use Rattle.showing_parameters.proofs.Laws.{reads_7, reads_1, reads_12, reads}
use Rattle.showing_parameters.proofs.tagged_data.Goals as goal

pub returns-in_err-m : goal.returns-in_err-m
returns-in_err-m c = reads_7 c.args.tag.now c.args.name.now _ _ _ c.in_err-m.ensures c.from_residual.ensures.1

pub returns-in_err-tag : goal.returns-in_err-tag
returns-in_err-tag c = reads_1 c.args.tag.now c.args.name.now _ c.in_ok-m.ensures _ c.in_err-tag.ensures c.from_residual-in_err-tag.ensures.1

pub returns-in_err-c : goal.returns-in_err-c
returns-in_err-c c =
    let made = c.in_ok-tag.ensures.1.labelled.bytes in
    reads_12 c.args.tag.now c.args.name.now _ c.in_ok-m.ensures c.in_ok-tag.ensures.0 _ _ _
    (ap (component (view c.in_ok-m.m)) (sym made) ∙ sym c.get_component.ensures ∙ ap component_read c.in_err-c.ensures.ok_part) _ c.in_err-c.ensures.value
    (c.of.ensures ∙ ap (λ (u : Tag). refused 12 u 0) made) c.from_residual-in_err-c.ensures.1

pub returns : goal.returns
returns c =
    let made = c.in_ok-tag.ensures.1.labelled.bytes in
    reads c.args.tag.now c.args.name.now _ c.in_ok-m.ensures c.in_ok-tag.ensures.0 _
    (ap (component (view c.in_ok-m.m)) (sym made) ∙ sym c.get_component.ensures ∙ ap component_read c.in_ok-c.ensures.ok_part) c.read_parameter.ensures

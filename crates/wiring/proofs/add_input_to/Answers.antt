-- `wiring::add_input_to` meets its contract. Assumes nothing.
use mathlib.Core.Path.{refl}
use Rattle.edit.proofs.Laws.Step.{handed_on, becomes, meets_7}
use Rattle.wiring.proofs.Laws.Wiring.{add_1, add_1_source, add_12, add_12_source, add-held}
use Rattle.wiring.proofs.add_input_to.Goals as goal

pub returns-in_err-check : goal.returns-in_err-check
returns-in_err-check c = meets_7 c.in_err-check.ensures.judged.0 (handed_on _ c.from_residual.ensures.1 c.in_err-check.ensures.judged.1)

pub returns-in_err-target : goal.returns-in_err-target
returns-in_err-target c =
    let a = c.args in add_1 a.m.now a.target.now a.source.now a.index c.in_ok-check.ensures.judged c.in_err-target.ensures (becomes c.from_residual-in_err-target.ensures.1)

pub returns-in_err-source : goal.returns-in_err-source
returns-in_err-source c =
    let a = c.args in
    add_1_source a.m.now a.target.now a.source.now a.index c.in_ok-check.ensures.judged c.in_ok-target.ensures.0 c.in_err-source.ensures (becomes c.from_residual-in_err-source.ensures.1)

pub returns-in_err-held_component : goal.returns-in_err-held_component
returns-in_err-held_component c =
    let a = c.args in
    add_12 a.m.now a.target.now a.source.now a.index c.in_ok-check.ensures.judged c.in_ok-target.ensures.0 c.in_ok-source.ensures.0 _ c.in_ok-target.ensures.1.labelled _ c.in_ok-source.ensures.1.labelled
    _ c.in_err-held_component.ensures.0 refl (handed_on _ c.from_residual-in_err-held_component.ensures.1 c.in_err-held_component.ensures.1)

pub returns-in_err-held_component-2 : goal.returns-in_err-held_component-2
returns-in_err-held_component-2 c =
    let a = c.args in
    add_12_source a.m.now a.target.now a.source.now a.index c.in_ok-check.ensures.judged c.in_ok-target.ensures.0 c.in_ok-source.ensures.0 _ c.in_ok-target.ensures.1.labelled _ c.in_ok-source.ensures.1.labelled
    _ c.in_ok-held_component.ensures refl _ c.in_err-held_component-2.ensures.0 refl (handed_on _ c.from_residual-in_err-held_component-2.ensures.1 c.in_err-held_component-2.ensures.1)

pub wire-requires : goal.wire-requires
wire-requires c =
    let a = c.args in
    add-held a.m.now a.target.now a.source.now a.index c.in_ok-check.ensures.judged c.in_ok-target.ensures.0 c.in_ok-source.ensures.0 _ c.in_ok-target.ensures.1.labelled _ c.in_ok-source.ensures.1.labelled
    _ c.in_ok-held_component.ensures refl _ c.in_ok-held_component-2.ensures refl

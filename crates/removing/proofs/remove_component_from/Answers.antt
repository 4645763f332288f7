-- `removing::remove_component_from` meets its contract. Assumes nothing.
use mathlib.Core.Path.{refl}
use Rattle.edit.proofs.Laws.Step.{handed_on, becomes, is_done, meets_7}
use Rattle.removing.proofs.Laws.Removing.{held_at, remove_1, remove_12, remove-done}
use Rattle.removing.proofs.remove_component_from.Goals as goal

pub returns-in_err-check : goal.returns-in_err-check
returns-in_err-check c = meets_7 c.in_err-check.ensures.judged.0 (handed_on _ c.from_residual.ensures.1 c.in_err-check.ensures.judged.1)

pub returns-in_err-tag : goal.returns-in_err-tag
returns-in_err-tag c = let a = c.args in remove_1 a.m.now a.tag.now _ c.in_ok-check.ensures.judged c.in_err-tag.ensures (becomes c.from_residual-in_err-tag.ensures.1)

pub returns-in_err-i : goal.returns-in_err-i
returns-in_err-i c =
    let a = c.args in
    remove_12 a.m.now a.tag.now _ c.in_ok-check.ensures.judged c.in_ok-tag.ensures.0 _ c.in_ok-tag.ensures.1.labelled _ c.in_err-i.ensures.0 refl
    (handed_on _ c.from_residual-in_err-i.ensures.1 c.in_err-i.ensures.1)

pub take_entry-requires : goal.take_entry-requires
take_entry-requires c = held_at c.args.m.now c.in_ok-check.ensures.judged c.in_ok-i.ensures refl

pub returns : goal.returns
returns c =
    let a = c.args in
    remove-done a.m.now a.tag.now _ c.in_ok-check.ensures.judged c.in_ok-tag.ensures.0 _ c.in_ok-tag.ensures.1.labelled _ c.in_ok-i.ensures
    c.in_ok-check.ensures.sizes.0 _ refl _ c.take_entry.ensures _ c.swap_places.ensures is_done

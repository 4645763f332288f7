-- `renaming::rename_component_in` meets its contract. Assumes nothing.
use mathlib.Core.Path.{refl}
use Rattle.edit.proofs.Laws.Step.{handed_on, becomes, is_made, meets_7}
use Rattle.renaming.proofs.Laws.Renaming.{rename_1, rename_1_new, rename_11, rename_12, rename-done}
use Rattle.renaming.proofs.rename_component_in.Goals as goal

pub returns-in_err-check : goal.returns-in_err-check
returns-in_err-check c = meets_7 c.in_err-check.ensures.judged.0 (handed_on _ c.from_residual.ensures.1 c.in_err-check.ensures.judged.1)

pub returns-in_err-old : goal.returns-in_err-old
returns-in_err-old c =
    let a = c.args in
    rename_1 a.m.now a.old.now a.new.now _ c.in_ok-check.ensures.judged c.in_err-old.ensures (becomes c.from_residual-in_err-old.ensures.1)

pub returns-in_err-new : goal.returns-in_err-new
returns-in_err-new c =
    let a = c.args in
    rename_1_new a.m.now a.old.now a.new.now _ c.in_ok-check.ensures.judged c.in_ok-old.ensures.0 c.in_err-new.ensures (becomes c.from_residual-in_err-new.ensures.1)

pub returns-in_err-check_free : goal.returns-in_err-check_free
returns-in_err-check_free c =
    let a = c.args in
    rename_11 a.m.now a.old.now a.new.now _ c.in_ok-check.ensures.judged c.in_ok-old.ensures.0 c.in_ok-new.ensures.0 _ c.in_ok-old.ensures.1.labelled _ c.in_ok-new.ensures.1.labelled
    c.in_err-check_free.ensures.0 (handed_on _ c.from_residual-in_err-check_free.ensures.1 c.in_err-check_free.ensures.1)

pub returns-in_err-i : goal.returns-in_err-i
returns-in_err-i c =
    let a = c.args in
    rename_12 a.m.now a.old.now a.new.now _ c.in_ok-check.ensures.judged c.in_ok-old.ensures.0 c.in_ok-new.ensures.0 _ c.in_ok-old.ensures.1.labelled _ c.in_ok-new.ensures.1.labelled
    c.in_ok-check_free.ensures _ c.in_err-i.ensures.0 refl (handed_on _ c.from_residual-in_err-i.ensures.1 c.in_err-i.ensures.1)

pub returns : goal.returns
returns c =
    let a = c.args in
    rename-done a.m.now a.old.now a.new.now _ c.in_ok-check.ensures.judged c.in_ok-old.ensures.0 c.in_ok-new.ensures.0 _ c.in_ok-old.ensures.1.labelled _ c.in_ok-new.ensures.1.labelled
    c.in_ok-check_free.ensures _ c.in_ok-i.ensures _ refl _ c.move_tag.ensures is_made

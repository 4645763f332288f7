-- `setting::set_parameter_in` meets its contract. Assumes nothing.
use mathlib.Core.Path.{refl, ◌∙◌}
use Rattle.std.proofs.Common.{rules}
use Rattle.held.proofs.Laws.Rows.{no_entry}
use Rattle.edit.proofs.Laws.Step.{handed_on, becomes, is_done, meets_7}
use Rattle.setting.proofs.Laws.Setting.{set-ok, set-err, set_1, set_12, set_refused, set-done}
use Rattle.setting.proofs.set_parameter_in.Goals as goal

pub returns-in_err-check : goal.returns-in_err-check
returns-in_err-check c = meets_7 c.in_err-check.ensures.judged.0 (handed_on _ c.from_residual.ensures.1 c.in_err-check.ensures.judged.1)

pub returns-in_err-tag : goal.returns-in_err-tag
returns-in_err-tag c =
    let a = c.args in set_1 a.m.now a.tag.now a.name.now a.«data» _ c.in_ok-check.ensures.judged c.in_err-tag.ensures (becomes c.from_residual-in_err-tag.ensures.1)

pub returns-in_err-i : goal.returns-in_err-i
returns-in_err-i c =
    let a = c.args in
    set_12 a.m.now a.tag.now a.name.now a.«data» _ c.in_ok-check.ensures.judged c.in_ok-tag.ensures.0 _ c.in_ok-tag.ensures.1.labelled _ c.in_err-i.ensures.0 refl
    (handed_on _ c.from_residual-in_err-i.ensures.1 c.in_err-i.ensures.1)

pub returns-in_err-component : goal.returns-in_err-component
returns-in_err-component c =
    let a = c.args in
    let (p, unset, says) = set-err _ _ _ (λ p x h. search rules) c.map_err.ensures.cases c.in_err-component.was in
    set_refused a.m.now a.tag.now a.name.now a.«data» _ c.in_ok-check.ensures.judged c.in_ok-tag.ensures.0 _ c.in_ok-tag.ensures.1.labelled _ c.in_ok-i.ensures
    _ refl no_entry p (unset ∙ c.set_parameter-set.ensures) (handed_on _ c.from_residual-in_err-component.ensures.1 says)

pub returns : goal.returns
returns c =
    let a = c.args in
    set-done a.m.now a.tag.now a.name.now a.«data» _ c.in_ok-check.ensures.judged c.in_ok-tag.ensures.0 _ c.in_ok-tag.ensures.1.labelled _ c.in_ok-i.ensures
    _ refl no_entry _ (set-ok _ _ _ c.map_err.ensures.cases c.in_ok-component.was ∙ c.set_parameter-set.ensures) is_done

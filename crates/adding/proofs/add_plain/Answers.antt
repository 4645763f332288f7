-- `adding::add_plain` meets its contract. Assumes nothing.
use mathlib.Core.Path.{sym, ◌∙◌}
use Rattle.edit.proofs.Laws.Step.{handed_on, becomes, unmade}
use Rattle.adding.proofs.Laws.Plain.{other_kind, right_kind, plain_7, plain_1, plain_4, plain_11, plain_more}
use Rattle.adding.proofs.add_plain.Goals as goal

pub returns-in_err-check : goal.returns-in_err-check
returns-in_err-check c k fits h =
    let a = c.args in plain_7 a.m.now a.tag.now k fits _ c.in_err-check.ensures.judged.0 (handed_on _ c.from_residual.ensures.1 c.in_err-check.ensures.judged.1)

pub returns-in_err-tag : goal.returns-in_err-tag
returns-in_err-tag c k fits h =
    let a = c.args in plain_1 a.m.now a.tag.now k fits _ c.in_ok-check.ensures.judged c.in_err-tag.ensures (becomes c.from_residual-in_err-tag.ensures.1)

pub returns-in_err-component : goal.returns-in_err-component
returns-in_err-component c k fits h =
    let a = c.args in
    plain_4 a.m.now a.tag.now k fits _ c.in_ok-check.ensures.judged c.in_ok-tag.ensures.0 _ c.in_ok-tag.ensures.1.labelled (other_kind k fits (sym h ∙ c.in_err-component.ensures.ok_part))
    (handed_on _ c.from_residual-in_err-component.ensures.1 (unmade _ _ c.in_err-component.ensures.value c.of.ensures))

pub returns-in_err-check_free : goal.returns-in_err-check_free
returns-in_err-check_free c k fits h =
    let a = c.args in
    plain_11 a.m.now a.tag.now k fits _ c.in_ok-check.ensures.judged c.in_ok-tag.ensures.0 _ c.in_ok-tag.ensures.1.labelled (right_kind k fits (sym h ∙ c.in_ok-component.ensures.ok_part)).0
    c.in_err-check_free.ensures.0 (handed_on _ c.from_residual-in_err-check_free.ensures.1 c.in_err-check_free.ensures.1)

pub returns : goal.returns
returns c k fits h =
    let a = c.args in
    let right = right_kind k fits (sym h ∙ c.in_ok-component.ensures.ok_part) in
    plain_more a.m.now a.tag.now k fits _ c.in_ok-check.ensures.judged c.in_ok-tag.ensures.0 _ c.in_ok-tag.ensures.1.labelled right.0
    c.in_ok-check_free.ensures c.in_ok-check.ensures.sizes.0 right.1 c.add_more.ensures

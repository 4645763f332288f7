-- `unwiring::remove_input_from` meets its contract. Assumes nothing.
use native.Mathlib.Omega.{arith}
use mathlib.Core.Path.{refl}
use Rattle.model.specs.View.{place_of}
use Rattle.held.proofs.Laws.Rows.{no_list, rows-live}
use Rattle.edit.proofs.Laws.Step.{stays, handed_on, becomes, meets_7}
use Rattle.unwiring.proofs.Laws.Unwiring.{remove_1, remove_12, remove_3, remove-done}
use Rattle.unwiring.proofs.remove_input_from.Goals as goal

pub returns-in_err-check : goal.returns-in_err-check
returns-in_err-check c = meets_7 c.in_err-check.ensures.judged.0 (handed_on _ c.from_residual.ensures.1 c.in_err-check.ensures.judged.1)

pub returns-in_err-tag : goal.returns-in_err-tag
returns-in_err-tag c =
    let a = c.args in remove_1 a.m.now a.tag.now a.index _ c.in_ok-check.ensures.judged c.in_err-tag.ensures (becomes c.from_residual-in_err-tag.ensures.1)

pub returns-in_err-row : goal.returns-in_err-row
returns-in_err-row c =
    let a = c.args in
    remove_12 a.m.now a.tag.now a.index _ c.in_ok-check.ensures.judged c.in_ok-tag.ensures.0 _ c.in_ok-tag.ensures.1.labelled _ c.in_err-row.ensures.0 refl
    (handed_on _ c.from_residual-in_err-row.ensures.1 c.in_err-row.ensures.1)

pub returns-then-live_places-index : goal.returns-then-live_places-index
returns-then-live_places-index c =
    let a = c.args in
    let live = rows-live place_of _ _ 3 c.live_places.ensures.rows c.live_places.ensures.bound in
    remove_3 a.m.now a.tag.now a.index _ c.in_ok-check.ensures.judged c.in_ok-tag.ensures.0 _ c.in_ok-tag.ensures.1.labelled _ c.in_ok-row.ensures _ refl no_list
    (omega (arith, live.live, c.if-live_places-index.true)) (stays c.at.ensures)

pub returns : goal.returns
returns c =
    let a = c.args in
    let live = rows-live place_of _ _ 3 c.live_places.ensures.rows c.live_places.ensures.bound in
    remove-done a.m.now a.tag.now a.index _ c.in_ok-check.ensures.judged c.in_ok-tag.ensures.0 _ c.in_ok-tag.ensures.1.labelled _ c.in_ok-row.ensures _ refl no_list
    (omega (arith, live.live, c.if-live_places-index.false)) (c.place.ensures _)

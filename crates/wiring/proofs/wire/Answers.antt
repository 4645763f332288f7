-- `wiring::wire` meets its contract. Assumes nothing.
use native.Mathlib.Omega.{arith}
use mathlib.Core.Path.{refl, sym, ◌∙◌, ap}
use Rattle.std.specs.Prelude.{Err}
use Rattle.model.specs.View.{place_of}
use Rattle.held.proofs.Laws.Rows.{no_list, rows-live}
use Rattle.edit.proofs.Laws.Step.{stays, handed_on}
use Rattle.walking.specs.declared.Blocked.TheVariants.{Gap}
use Rattle.walking.proofs.Laws.Line.{sought_row}
use Rattle.wiring.proofs.Laws.Wiring.{wire_12, wire_3, wire_14, wire_13, wire-done, gap_below}
use Rattle.wiring.proofs.wire.Goals as goal

pub returns-in_err-row : goal.returns-in_err-row
returns-in_err-row c =
    let a = c.args in
    wire_12 a.m.now a.target a.source a.index _ c.requires _ c.in_err-row.ensures.0 refl (handed_on _ c.from_residual.ensures.1 c.in_err-row.ensures.1)

pub returns-then-live_places-index : goal.returns-then-live_places-index
returns-then-live_places-index c =
    let a = c.args in
    let live = rows-live place_of _ _ 3 c.live_places.ensures.rows c.live_places.ensures.bound in
    wire_3 a.m.now a.target a.source a.index _ c.requires _ c.in_ok-row.ensures _ refl no_list (omega (arith, live.live, c.if-live_places-index.true)) (stays c.at.ensures)

pub offset_bounds-m-gap : goal.offset_bounds-m-gap
offset_bounds-m-gap c =
    let walks = c.walk_from.ensures (record { passing = c.requires.passing; ends = (sought_row c.in_ok-row.ensures refl).within }) in
    omega (arith, c.in-Err-Gap.gap-is, gap_below c.args.m.now c.in_ok-row.row _ _ _ _ c.requires.passing walks (c.in-Err-Gap.is ∙ ap Err c.in-Err-Gap.field-0-is))

pub bounds-m-gap : goal.bounds-m-gap
bounds-m-gap c =
    let walks = c.walk_from.ensures (record { passing = c.requires.passing; ends = (sought_row c.in_ok-row.ensures refl).within }) in
    omega (arith, c.in-Err-Gap.gap-is, gap_below c.args.m.now c.in_ok-row.row _ _ _ _ c.requires.passing walks (c.in-Err-Gap.is ∙ ap Err c.in-Err-Gap.field-0-is))

pub returns-in-Ok : goal.returns-in-Ok
returns-in-Ok c =
    let a = c.args in
    let live = rows-live place_of _ _ 3 c.live_places.ensures.rows c.live_places.ensures.bound in
    let walks = c.walk_from.ensures (record { passing = c.requires.passing; ends = (sought_row c.in_ok-row.ensures refl).within }) in
    wire-done a.m.now a.target a.source a.index _ c.requires _ c.in_ok-row.ensures _ refl no_list (omega (arith, live.live, c.if-live_places-index.false)) _ walks c.in-Ok.is (c.place.ensures _)

pub returns-in-Err-Target : goal.returns-in-Err-Target
returns-in-Err-Target c =
    let a = c.args in
    let live = rows-live place_of _ _ 3 c.live_places.ensures.rows c.live_places.ensures.bound in
    let walks = c.walk_from.ensures (record { passing = c.requires.passing; ends = (sought_row c.in_ok-row.ensures refl).within }) in
    wire_14 a.m.now a.target a.source a.index _ c.requires _ c.in_ok-row.ensures _ refl no_list (omega (arith, live.live, c.if-live_places-index.false)) _ walks (c.in-Err-Target.is ∙ ap Err c.in-Err-Target.field-0-is) (stays c.of.ensures)

pub returns-in-Err-Gap : goal.returns-in-Err-Gap
returns-in-Err-Gap c =
    let a = c.args in
    let live = rows-live place_of _ _ 3 c.live_places.ensures.rows c.live_places.ensures.bound in
    let walks = c.walk_from.ensures (record { passing = c.requires.passing; ends = (sought_row c.in_ok-row.ensures refl).within }) in
    wire_13 a.m.now a.target a.source a.index _ c.requires _ c.in_ok-row.ensures _ refl no_list (omega (arith, live.live, c.if-live_places-index.false)) _ walks _ _ (c.in-Err-Gap.is ∙ ap Err (c.in-Err-Gap.field-0-is ∙ (λ j. Gap (sym c.in-Err-Gap.gap-is j) (sym c.in-Err-Gap.place-is j)))) no_list (stays c.at-in-Err-Gap.ensures)

-- `encode` meets its contract. Assumes nothing.
use mathlib.Core.Path.{sym, ap, ◌∙◌}
use mathlib.Core.List.{map}
use native.Mathlib.Omega.{arith}
use Rattle.model.specs.View.{rows, every, component_of, entry_fits, list_of, list_fits}
use Rattle.model_bytes.specs.ModelBytes.{entry_row, list_row}
use Rattle.model_writing.proofs.Laws.Writing.{live_wrote}
use Rattle.model_writing.proofs.Laws.Sizes.{sized}
use Rattle.model_writing.proofs.Laws.Encoding.{no_room, unfit, written}
use Rattle.model_writing.proofs.encode.encode.Goals as goal
use Rattle.model_writing.proofs.encode.encode.Goals.{then-out-ne-MODEL_SIZE-via-then-out-ne-MODEL_SIZE, then-out-ne-MODEL_SIZE-via-else-out-ne-MODEL_SIZE+then-not-model_fits}

pub returns-then-out-ne-MODEL_SIZE : goal.returns-then-out-ne-MODEL_SIZE
returns-then-out-ne-MODEL_SIZE c = elim c.then-out-ne-MODEL_SIZE.branch [
  | then-out-ne-MODEL_SIZE-via-then-out-ne-MODEL_SIZE w ↦ no_room _ _ w.if-out-ne-MODEL_SIZE.true
  | then-out-ne-MODEL_SIZE-via-else-out-ne-MODEL_SIZE+then-not-model_fits w ↦ unfit _ _ (sym w.model_fits.ensures ∙ w.if-not-model_fits.true)
]

pub write_header-requires : goal.write_header-requires
write_header-requires c = (c.if-out-ne-MODEL_SIZE.false, (sized c.args.m.now (sym c.model_fits.ensures ∙ c.if-not-model_fits.false)).default)

pub write_components-requires : goal.write_components-requires
unfolding rows
write_components-requires c =
    let z = sized c.args.m.now (sym c.model_fits.ensures ∙ c.if-not-model_fits.false) in
    (omega (arith, c.live_components.ensures.bound), (c.write_header.ensures.kept.size ∙ c.if-out-ne-MODEL_SIZE.false, ap (λ es. every (map entry_fits es)) c.live_components.ensures.rows ∙ z.entries))

pub write_lists-requires : goal.write_lists-requires
unfolding rows
write_lists-requires c =
    let z = sized c.args.m.now (sym c.model_fits.ensures ∙ c.if-not-model_fits.false) in
    (omega (arith, c.live_lists.ensures.bound), (c.write_components.ensures.kept.size ∙ c.write_header.ensures.kept.size ∙ c.if-out-ne-MODEL_SIZE.false, ap (λ ls. every (map list_fits ls)) c.live_lists.ensures.rows ∙ z.rows))

pub returns : goal.returns
returns c =
    let m = c.args.m.now in
    let z = sized m (sym c.model_fits.ensures ∙ c.if-not-model_fits.false) in
    written m c.if-out-ne-MODEL_SIZE.false (sym c.model_fits.ensures ∙ c.if-not-model_fits.false) c.write_header.ensures
    (live_wrote component_of entry_row 64 88 m.component_count m.components c.live_components.ensures.rows (omega (arith, c.live_components.ensures.bound, z.components)) c.write_components.ensures)
    (live_wrote list_of list_row 5696 168 m.list_count m.lists c.live_lists.ensures.rows (omega (arith, c.live_lists.ensures.bound, z.lists)) c.write_lists.ensures)

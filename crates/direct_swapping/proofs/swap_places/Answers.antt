-- `swap_places` meets its contract. Assumes nothing.
use native.Mathlib.Omega.{arith}
use Rattle.direct_swapping.proofs.Laws.Swapping.{rows_swapped_more, swapped}
use Rattle.direct_swapping.proofs.swap_places.Goals as goal

pub loop-j-preserved : goal.loop-j-preserved
loop-j-preserved c = rows_swapped_more _ _ c.loop-j.invariant c.swap_list.ensures

pub returns : goal.returns
returns c = swapped _ _ (omega (arith, c.if-s-ne-MODEL_SIZE.false)) (omega (arith, c.count-j-end.ensures)) c.loop-j.invariant c.swap_place.ensures

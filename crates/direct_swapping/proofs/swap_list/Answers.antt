-- `swap_list` meets its contract. Assumes nothing.
use native.Mathlib.Omega.{arith}
use Rattle.direct_swapping.proofs.Laws.Swapping.{places_swapped_more, list_swapped}
use Rattle.direct_swapping.proofs.swap_list.Goals as goal

pub loop-k-preserved : goal.loop-k-preserved
loop-k-preserved c = places_swapped_more _ _ _ c.loop-k.invariant c.swap_place.ensures

pub returns : goal.returns
returns c = list_swapped _ _ _ (omega (arith, c.read_word.ensures)) c.loop-k.invariant

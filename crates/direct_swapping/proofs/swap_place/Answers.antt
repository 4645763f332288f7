-- `swap_place` meets its contract. Assumes nothing.
use Rattle.direct_swapping.proofs.Laws.Swapping.{place_swapped, place-stays}
use Rattle.direct_swapping.proofs.swap_place.Goals as goal

pub returns-then-names : goal.returns-then-names
returns-then-names c = place_swapped _ _ c.names.ensures c.if-names.true (c.write_place.ensures.wrote c.requires)

pub returns-else-names : goal.returns-else-names
returns-else-names c = place-stays _ _ c.names.ensures c.if-names.false

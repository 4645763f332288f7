-- `swap_places` meets its contract. Assumes nothing.
use Rattle.model.specs.View.{place_of}
use Rattle.direct_swapping.specs.Swapping.{RowsSwapped}
use Rattle.direct_swapping.proofs.swap_places.Given as goal

abbrev pub invariant-loop-j : goal.invariant-loop-j
invariant-loop-j l = RowsSwapped l.t (place_of l.p) l.j l.initial.s l.s

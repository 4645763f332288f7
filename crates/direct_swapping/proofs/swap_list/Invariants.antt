-- `swap_list` meets its contract. Assumes nothing.
use Rattle.model.specs.View.{place_of}
use Rattle.direct_swapping.specs.Swapping.{PlacesSwapped}
use Rattle.direct_swapping.proofs.swap_list.Given as goal

abbrev pub invariant-loop-k : goal.invariant-loop-k
invariant-loop-k l = PlacesSwapped l.t (place_of l.p) l.j l.k l.initial.s l.s

-- `graph::wiring::wires` meets its contract: `Laws/Drawing.antt`. Assumes nothing.
use Rattle.graph.specs.Wiring.{Wired}
use Rattle.graph.proofs.wiring.wires.Given as goal

abbrev pub invariant-loop-list : goal.invariant-loop-list
invariant-loop-list l = Wired l.lists l.list-index l.w

-- `is_clear` meets its contract. Assumes nothing.
use Rattle.direct.proofs.Laws.Clear.{Closed}
use Rattle.direct.proofs.clear.is_clear.Given as goal

abbrev pub invariant-loop-x : goal.invariant-loop-x
invariant-loop-x l = Closed l.wires l.done l.n l.target

-- `evaluating::evaluate::number_along` meets its contract: `Laws/Along.antt`. Assumes nothing.
use Rattle.evaluating.proofs.Laws.Along.{Worked}
use Rattle.evaluating.proofs.evaluate.number_along.Given as goal

abbrev pub invariant-loop-x : goal.invariant-loop-x
invariant-loop-x l = Worked l.m l.g.order l.p l.vals l.number l.x-index

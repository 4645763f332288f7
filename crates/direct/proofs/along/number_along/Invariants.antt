-- `number_along` meets its contract. Assumes nothing.
use Rattle.direct.proofs.Laws.Numbers.{Worked}
use Rattle.direct.proofs.along.number_along.Given as goal

abbrev pub invariant-loop-x : goal.invariant-loop-x
invariant-loop-x l = Worked l.standing.bytes.now l.standing.keys.count l.standing.wires.0 l.p l.numbers

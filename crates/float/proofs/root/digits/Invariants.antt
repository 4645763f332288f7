-- `float::root::digits` meets its contract. The invariant is `Digit` of `Laws/Digit.antt`. Assumes nothing.
use Rattle.float.proofs.Laws.Digit.{Digit}
use Rattle.float.proofs.root.digits.Given as goal

abbrev pub invariant-loop : goal.invariant-loop
invariant-loop l = Digit l.a l.root l.rem l.rest l.counter

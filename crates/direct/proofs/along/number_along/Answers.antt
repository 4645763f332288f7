-- `number_along` meets its contract. Assumes nothing.
use Rattle.direct.proofs.Laws.Numbers.{none_worked, worked_more}
use Rattle.direct.proofs.along.number_along.Goals as goal

pub loop-x-init : goal.loop-x-init
loop-x-init c = none_worked

pub loop-x-preserved : goal.loop-x-preserved
loop-x-preserved c = worked_more c.args.standing.now.few c.loop-x.invariant c.in_ok-number.ensures

-- `is_clear` meets its contract. Assumes nothing.
use Rattle.direct.proofs.Laws.Clear.{closed_none, walk_is_clear}
use Rattle.direct.proofs.clear.is_clear.Goals as goal

pub loop-x-init : goal.loop-x-init
loop-x-init c = closed_none

pub returns-then-from-lt64 : goal.returns-then-from-lt64
returns-then-from-lt64 c = λ e s g. walk_is_clear c.args.from c.loop-x.invariant e g

-- `dw_compile` meets its contract. Assumes nothing.
use Rattle.compiling.proofs.Laws.Order.{compiles}
use Rattle.compiling.proofs.dw_compile.Goals as goal

pub returns : goal.returns
returns c = compiles _ _ c.order_in.ensures c.say_number.ensures

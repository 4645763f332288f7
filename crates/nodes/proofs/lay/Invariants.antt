-- `nodes::lay` meets its contract: `Laws/Laying.antt`. Assumes nothing.
use Rattle.std.proofs.Common.{◌-◌, length}
use Rattle.nodes.proofs.Laws.Laying.{Going}
use Rattle.nodes.proofs.lay.Given as goal

abbrev pub invariant-loop-order : goal.invariant-loop-order
invariant-loop-order l = Going l.w l.t l.order

abbrev pub decreases-loop-order : goal.decreases-loop-order
decreases-loop-order l = 192 - length l.order

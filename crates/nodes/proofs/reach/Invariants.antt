-- `nodes::reach` meets its contract: `Laws/Laying.antt`. Assumes nothing.
use Rattle.std.proofs.Common.{◌-◌}
use Rattle.nodes.proofs.Laws.Laying.{Walking}
use Rattle.nodes.proofs.reach.Given as goal

abbrev pub invariant-loop-x : goal.invariant-loop-x
invariant-loop-x l = Walking l.w l.t l.line l.i

abbrev pub decreases-loop-x : goal.decreases-loop-x
decreases-loop-x l = 192 - l.i

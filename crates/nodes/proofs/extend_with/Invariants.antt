-- `nodes::extend_with` meets its contract: `Laws/Laying.antt`. Assumes nothing.
use Rattle.std.proofs.Common.{take}
use Rattle.nodes.specs.Nodes.{Grown}
use Rattle.nodes.proofs.extend_with.Given as goal

abbrev pub invariant-loop-wire : goal.invariant-loop-wire
invariant-loop-wire l = Grown l.initial.line (take l.wire-index l.wires) l.line

-- `wires` meets its contract. Assumes nothing.
use mathlib.Core.List.{[]}
use lib.ListN.{get_or, length-set}
use Rattle.standing.specs.Standing.{Owned}
use Rattle.finding.proofs.Laws.Loops.{each_more}
use native.Mathlib.Omega.{arith}
use Rattle.standing.proofs.Components.wires.Goals as goal

pub loop-i-preserved : goal.loop-i-preserved
loop-i-preserved c =
    (simp length-set c.loop-i.invariant.0, each_more (λ j w. Owned c.args.self.now.bytes.now c.args.self.now.keys.now.count c.args.self.now.lists.now.of c.args.self.now.lists.now.count (get_or c.args.self.now.keys.now.of j 0) j w) c.loop-i.wires c.loop-i.i c.in_ok-wires.field-0 [] (omega arith) c.loop-i.invariant.1 c.in_ok-wires.ensures)

pub returns : goal.returns
returns c = record { size = c.loop-i.invariant.0; each = λ i h. c.loop-i.invariant.1 i (omega arith) }

-- `nodes::extend_with` meets its contract: `Laws/Laying.antt`. Assumes nothing.
use Rattle.std.proofs.Common.{sym, ◌∙◌}
use Rattle.nodes.proofs.Laws.Laying.{grown_at, grown_past}
use Rattle.nodes.proofs.extend_with.Goals.{in-Some, in_default}
use Rattle.nodes.proofs.extend_with.Goals as goal

pub loop-wire-preserved : goal.loop-wire-preserved
loop-wire-preserved c = elim c.match-node.branch [
  | in-Some w ↦ rw w.line-is (grown_at _ c.loop-wire.wire-index c.loop-wire-test.true c.loop-wire.invariant (sym c.node.ensures ∙ w.in-Some.is) w.push.new.self w.push.ensures)
  | in_default w ↦ rw w.line-is (grown_past _ c.loop-wire.wire-index c.loop-wire-test.true c.loop-wire.invariant (sym c.node.ensures ∙ w.in_default.is))
]

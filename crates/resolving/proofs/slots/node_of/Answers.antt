-- `resolving::slots::node_of` meets its contract: `Laws/Node.antt`. Assumes nothing.
use Rattle.std.proofs.Common.{rules}
use Rattle.tag.specs.View.{bytes_of}
use Rattle.resolving.proofs.Laws.Node.{either_node}
use Rattle.resolving.proofs.slots.node_of.Goals as goal

pub returns : goal.returns
returns c = either_node c.args.m.now (bytes_of c.args.t) _ _ c.find_component.ensures c.or_else.ensures (λ q. search rules)

-- `graph::computation_graph::first_nodes` meets its contract: `Laws/Answer.antt`. Assumes nothing.
use Rattle.graph.proofs.Laws.Answer.{filled}
use Rattle.graph.proofs.computation_graph.first_nodes.Goals as goal

pub returns : goal.returns
returns c = filled c.args.nodes.now c.copy_from_slice.new.self c.min-n.result c.min-n.ensures c.copy_from_slice.ensures.after

-- `NodeList::new` meets its contract: `Laws/Lists.antt`. Assumes nothing.
use Rattle.nodes.proofs.Laws.Lists.{gives_back_none}
use Rattle.nodes.proofs.node_list.NodeList.new.Goals as goal

pub invariant_of-result : goal.invariant_of-result
invariant_of-result g c = gives_back_none g.row.N

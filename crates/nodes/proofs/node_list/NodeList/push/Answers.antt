-- `NodeList::push` meets its contract: `Laws/Lists.antt`. Assumes nothing.
use Rattle.std.proofs.Common.{arith, inl, inr}
use Rattle.nodes.specs.Nodes.{stayed, joined}
use Rattle.nodes.proofs.Laws.Lists.{listed_room, grown, gives_back_more}
use Rattle.nodes.proofs.node_list.NodeList.push.Goals.{then-x-via-then-x, then-x-via-else-x+then-contains}
use Rattle.nodes.proofs.node_list.NodeList.push.Goals as goal

pub returns-then-x : goal.returns-then-x
returns-then-x g c = elim c.then-x.branch [
  | then-x-via-then-x w ↦ stayed (inl w.if-x.true)
  | then-x-via-else-x+then-contains w ↦ stayed (inr (w.contains.ensures.yes w.if-contains.true))
]

pub bounds-self-inside-self-inside : goal.bounds-self-inside-self-inside
bounds-self-inside-self-inside g c = listed_room c.self.invariant.listed c.args.x (omega (arith, c.if-x.false)) (rw c.self.view_is (c.contains.ensures.no c.if-contains.false))

pub invariant_of-self : goal.invariant_of-self
invariant_of-self g c = gives_back_more c.self.invariant c.args.x (omega (arith, c.if-x.false)) (rw c.self.view_is (c.contains.ensures.no c.if-contains.false))

pub returns : goal.returns
returns g c = rw (grown c.self.invariant.listed c.args.x (omega (arith, c.if-x.false)) (rw c.self.view_is (c.contains.ensures.no c.if-contains.false)), c.self.view_is) (joined (omega (arith, c.if-x.false)) (c.contains.ensures.no c.if-contains.false))

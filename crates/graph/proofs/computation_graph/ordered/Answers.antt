-- `graph::computation_graph::ordered` meets its contract: `Laws/Answer.antt`, `Laws/Drawing.antt`. Assumes nothing.
use Rattle.std.proofs.Common.{arith, Bool, None, subst}
use Rattle.tag.specs.View.{bytes_of}
use Rattle.resolving.specs.Slots.{NodeOf}
use Rattle.resolving.proofs.Laws.Slots.{in_table}
use Rattle.held.proofs.Laws.Rows.{no_list}
use Rattle.graph.specs.Compile.{Formed}
use Rattle.graph.proofs.Laws.Drawing.{owned, owned_front}
use Rattle.graph.proofs.Laws.Answer.{unmade, says_unknown, cyclic_of, form_of, formed_whole}
use Rattle.graph.proofs.computation_graph.ordered.Goals as goal

pub returns-in_err-x : goal.returns-in_err-x
returns-in_err-x c =
    let node = rw c.of-lookup.ensures at c.node.ensures in
    let nowhere : NodeOf c.args.m.now (bytes_of c.args.t) None = subst (NodeOf c.args.m.now (bytes_of c.args.t)) c.in_err-x.ensures.ok_part (node c.requires.0) in
    unmade c.args.m.now (bytes_of c.args.t) c.requires.0 (says_unknown c.args.m.now c.requires.0 (bytes_of c.args.t) c.requires.1 (omega (arith, nowhere))) _ _ c.in_err-x.ensures.value c.of.ensures _ c.from_residual.ensures.1

pub wires-w-requires : goal.wires-w-requires
wires-w-requires c =
    let lists = rw c.of-lookup.ensures at c.wires-found.ensures in
    owned_front c.wires-found.result _ (owned c.args.m.now c.requires.0 (in_table c.args.m.now.lists c.args.m.now.list_count c.live_lists.ensures.rows c.live_lists.ensures.bound) c.wires-found.result (lists c.requires.0) _ c.live_lists.ensures.bound)

pub returns-in_err-order : goal.returns-in_err-order
returns-in_err-order c =
    let node = rw c.of-lookup.ensures at c.node.ensures in
    let lists = rw c.of-lookup.ensures at c.wires-found.ensures in
    unmade c.args.m.now (bytes_of c.args.t) c.requires.0
    (cyclic_of c.args.m.now (bytes_of c.args.t) c.requires.0 c.requires.1 (lists c.requires.0) c.live_lists.ensures.rows c.live_lists.ensures.bound c.wires-w.ensures c.in_ok-x.ensures.ok_part (node c.requires.0) c.lay_out-reach.ensures c.in_err-order.ensures.ok_part) _ _ c.in_err-order.ensures.value c.of-2.ensures _ c.from_residual-in_err-order.ensures.1

pub returns-then-whole : goal.returns-then-whole
returns-then-whole c =
    let node = rw c.of-lookup.ensures at c.node.ensures in
    let lists = rw c.of-lookup.ensures at c.wires-found.ensures in
    formed_whole c.args.m.now (bytes_of c.args.t) c.wires-found.result c.wires-w.result c.nodes-nodes.result.now c.lay_out-reach.result.whole c.marks-seen.result.now
    (form_of c.args.m.now (bytes_of c.args.t) c.requires.0 c.requires.1 (lists c.requires.0) c.live_lists.ensures.rows c.live_lists.ensures.bound c.wires-w.ensures c.in_ok-x.ensures.ok_part (node c.requires.0) c.lay_out-reach.ensures c.in_ok-order.ensures.ok_part c.nodes-nodes.ensures.same c.marks-seen.ensures) c.if-whole.true _ c.placed.ensures

pub returns : goal.returns
returns c =
    let node = rw c.of-lookup.ensures at c.node.ensures in
    let lists = rw c.of-lookup.ensures at c.wires-found.ensures in
    c.placed_if_full.ensures (bytes_of c.args.t)
    (subst (λ (z : Bool). Formed no_list c.args.m.now (bytes_of c.args.t) c.wires-found.result c.wires-w.result c.nodes-nodes.result.now z c.marks-seen.result.now) c.if-whole.false
    (form_of c.args.m.now (bytes_of c.args.t) c.requires.0 c.requires.1 (lists c.requires.0) c.live_lists.ensures.rows c.live_lists.ensures.bound c.wires-w.ensures c.in_ok-x.ensures.ok_part (node c.requires.0) c.lay_out-reach.ensures c.in_ok-order.ensures.ok_part c.nodes-nodes.ensures.same c.marks-seen.ensures))

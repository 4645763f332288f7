-- `nodes::reach` meets its contract: `Laws/Laying.antt`. Assumes nothing.
use Rattle.std.proofs.Common.{arith, subst}
use Rattle.std.proofs.lemmas.Bool.Decides.{nat_tests}
use Rattle.nodes.specs.Nodes.{Pushed}
use Rattle.nodes.proofs.Laws.Lists.{node_at}
use Rattle.nodes.proofs.Laws.Laying.{walking_first, walking_turn, walking_end}
use Rattle.nodes.proofs.reach.Goals as goal

pub loop-x-init : goal.loop-x-init
loop-x-init c = walking_first c.args.w.now c.args.t c.requires (subst (λ l. Pushed 192 l c.args.t c.push.new.self) c.new-line.ensures c.push.ensures)

pub bounds-w-x : goal.bounds-w-x
bounds-w-x c = (node_at c.nodes.ensures.nodes c.nodes.ensures.same c.in-Some.ensures.lookup.3).small

pub offset_bounds-w-x : goal.offset_bounds-w-x
offset_bounds-w-x c = omega (arith, (node_at c.nodes.ensures.nodes c.nodes.ensures.same c.in-Some.ensures.lookup.3).small)

pub loop-x-smaller : goal.loop-x-smaller
loop-x-smaller c = omega (arith, (node_at c.nodes.ensures.nodes c.nodes.ensures.same c.in-Some.ensures.lookup.3).early)

pub loop-x-preserved : goal.loop-x-preserved
loop-x-preserved c = walking_turn c.args.w.now c.args.t c.loop-x.invariant (node_at c.nodes.ensures.nodes c.nodes.ensures.same c.in-Some.ensures.lookup.3) c.extend_with.ensures

pub returns : goal.returns
returns c = walking_end c.args.w.now c.args.t c.loop-x.invariant (let e = c.nodes.ensures.same in let l = c.in_default.ensures.lookup in grind (arith, nat_tests))

-- `graph::computation_graph::placed_if_full` meets its contract: `Laws/Answer.antt`. Assumes nothing.
use Rattle.std.proofs.Common.{false}
use Rattle.graph.proofs.Laws.Answer.{formed_absent, formed_gapped, formed_full}
use Rattle.graph.proofs.computation_graph.placed_if_full.Goals as goal

pub returns-in-Some : goal.returns-in-Some
returns-in-Some c t f =
    formed_absent c.args.m.now t c.args.found.now c.args.w.now c.args.order.now false c.args.seen.now f (c.least_absent.ensures f.fits f.resolved) _ c.in-Some.is _ c.of.ensures

pub returns-in-Some-least_gap : goal.returns-in-Some-least_gap
returns-in-Some-least_gap c t f =
    formed_gapped c.args.m.now t c.args.found.now c.args.w.now c.args.order.now false c.args.seen.now f (c.least_absent.ensures f.fits f.resolved) c.in_default.is (c.least_gap.ensures f.fits f.resolved) _ c.in-Some-least_gap.is _ c.at.ensures

pub returns : goal.returns
returns c t f =
    formed_full c.args.m.now t c.args.found.now c.args.w.now c.args.order.now false c.args.seen.now f (c.least_absent.ensures f.fits f.resolved) c.in_default.is (c.least_gap.ensures f.fits f.resolved) c.in_default-least_gap.is _ c.placed.ensures

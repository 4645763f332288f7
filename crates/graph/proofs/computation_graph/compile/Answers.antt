-- `graph::computation_graph::compile` meets its contract: `Laws/Answer.antt`. Assumes nothing.
use Rattle.graph.proofs.Laws.Answer.{too_long}
use Rattle.graph.proofs.computation_graph.compile.Goals as goal

pub returns-in_err-t : goal.returns-in_err-t
returns-in_err-t c = too_long c.args.m.now c.args.target.now _ c.from_residual-in_err-t.ensures.1 c.in_ok-check.ensures.judged c.in_err-t.ensures

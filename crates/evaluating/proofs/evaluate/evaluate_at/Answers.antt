-- `evaluating::evaluate::evaluate_at` meets its contract: `Laws/Along.antt`. Assumes nothing.
use Rattle.std.proofs.Common.{subst}
use Rattle.graph.specs.Compile.{CompilesAs}
use Rattle.evaluating.proofs.Laws.Along.{replies, hands_on}
use Rattle.evaluating.proofs.evaluate.evaluate_at.Goals as goal

pub returns-in_default : goal.returns-in_default
returns-in_default c = hands_on c.args.m.now c.args.target.now c.args.p (subst (CompilesAs c.args.m.now c.args.target.now) c.unwrap_err.ensures c.compile-compiled.ensures)

pub number_along-number-requires : goal.number_along-number-requires
number_along-number-requires c = record { target = c.args.target.now; compiled = subst (CompilesAs c.args.m.now c.args.target.now) c.in-Ok.is c.compile-compiled.ensures }

pub returns : goal.returns
returns c =
    let orders = subst (CompilesAs c.args.m.now c.args.target.now) c.in-Ok.is c.compile-compiled.ensures in
    replies c.args.m.now c.in-Ok.graph c.args.target.now orders c.args.p c.number_along-number.result (c.number_along-number.ensures c.args.target.now orders) c.bits_of.result c.bits_of.ensures

-- `evaluating::evaluate::number_along` meets its contract: `Laws/Along.antt`. Assumes nothing.
use Rattle.std.proofs.Common.{rules, arith, ap, length}
use Rattle.evaluating.proofs.Laws.Along.{worked-next, worked_end}
use Rattle.evaluating.proofs.evaluate.number_along.Goals as goal

pub loop-x-preserved : goal.loop-x-preserved
loop-x-preserved c =
    worked-next c.args.m.now c.args.g.now c.requires.target c.requires.compiled c.positions-x-items.ensures c.args.p c.loop-x.vals c.loop-x.number c.loop-x.x-index c.loop-x.invariant c.loop-x-test.true _ _ _ c.compute-number.result
    (search rules) (search rules) (search rules) c.compute-number.ensures

pub returns : goal.returns
returns c t says =
    worked_end c.args.m.now c.args.g.now t says c.args.p c.loop-x.vals c.loop-x.number c.loop-x.x-index c.loop-x.invariant (omega (arith, c.loop-x-test.false, c.loop-x.auto.x-index-end, ap length c.positions-x-items.ensures, says.counted))

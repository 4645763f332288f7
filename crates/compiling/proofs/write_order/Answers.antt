-- `write_order` meets its contract. Assumes nothing.
use Rattle.compiling.proofs.Laws.Order.{order-narrow, order-wrote}
use Rattle.compiling.proofs.write_order.Goals as goal

pub returns-then-order-lt2560 : goal.returns-then-order-lt2560
returns-then-order-lt2560 c = order-narrow _ _ c.if-order-lt2560.true

pub returns : goal.returns
returns c = order-wrote c.args.m.now c.args.g.now c.requires c.if-order-lt2560.false c.write_tags.ensures

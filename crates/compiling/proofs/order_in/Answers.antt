-- `order_in` meets its contract. Assumes nothing.
use Rattle.compiling.proofs.Laws.Order.{orders_7, orders_refused, orders}
use Rattle.compiling.proofs.order_in.Goals as goal

pub returns-in_err-m : goal.returns-in_err-m
returns-in_err-m c = orders_7 _ _ _ c.in_err-m.ensures c.from_residual.ensures.1

pub returns-in_err-graph : goal.returns-in_err-graph
returns-in_err-graph c = orders_refused _ _ c.in_ok-m.m c.in_ok-m.ensures _ c.in_err-graph.ensures c.from_residual-in_err-graph.ensures.1

pub write_order-requires : goal.write_order-requires
write_order-requires c = record { target = c.args.target.now; compiled = c.in_ok-graph.ensures }

pub returns : goal.returns
returns c = orders _ _ c.in_ok-m.m c.in_ok-m.ensures c.in_ok-graph.ensures c.write_order.ensures

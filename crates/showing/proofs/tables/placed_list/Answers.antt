-- `placed_list` meets its contract. Assumes nothing.
use Rattle.std.proofs.Math.ListN.{get_elem?}
use Rattle.held.specs.Reading.{list_read}
use Rattle.showing.specs.Tables.{at_position}
use Rattle.showing.proofs.Laws.{finds_7}
use Rattle.showing.proofs.tables.placed_list.Goals as goal

pub returns-in_err-m : goal.returns-in_err-m
returns-in_err-m c = finds_7 list_read (λ m. at_position (get_elem? m.lists c.args.position)) _ _ _ c.in_err-m.ensures c.from_residual.ensures.1

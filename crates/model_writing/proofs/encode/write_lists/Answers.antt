-- `write_lists` meets its contract. Assumes nothing.
use native.Mathlib.Omega.{arith}
use Rattle.model.specs.View.{list_of, list_fits}
use Rattle.held.proofs.Laws.Rows.{no_list}
use Rattle.model_bytes.specs.ModelBytes.{list_row}
use Rattle.model_writing.proofs.Laws.Writing.{lists-none, lists-more, row_fits, all_wrote}
use Rattle.model_writing.proofs.encode.write_lists.Goals as goal

pub loop-i-init : goal.loop-i-init
loop-i-init c = lists-none _ _

pub write_list-requires : goal.write_list-requires
write_list-requires c = (omega (arith, c.loop-i.invariant.kept.size, c.loop-i-test.true, c.requires), row_fits list_fits c.args.table.now c.loop-i.i no_list c.loop-i-test.true c.requires.1.1)

pub loop-i-preserved : goal.loop-i-preserved
loop-i-preserved c = lists-more c.args.table.now c.loop-i-test.true c.loop-i.invariant c.write_list.ensures

pub returns : goal.returns
returns c = all_wrote list_of list_row 5696 168 c.args.table.now (omega arith) c.loop-i.invariant

-- `write_components` meets its contract. Assumes nothing.
use native.Mathlib.Omega.{arith}
use Rattle.model.specs.View.{component_of, entry_fits}
use Rattle.held.proofs.Laws.Rows.{no_entry}
use Rattle.model_bytes.specs.ModelBytes.{entry_row}
use Rattle.model_writing.proofs.Laws.Writing.{entries_none, entries_more, row_fits, all_wrote}
use Rattle.model_writing.proofs.encode.write_components.Goals as goal

pub loop-i-init : goal.loop-i-init
loop-i-init c = entries_none _ _

pub write_entry-requires : goal.write_entry-requires
write_entry-requires c = (omega (arith, c.loop-i.invariant.kept.size, c.loop-i-test.true, c.requires), row_fits entry_fits c.args.table.now c.loop-i.i no_entry c.loop-i-test.true c.requires.1.1)

pub loop-i-preserved : goal.loop-i-preserved
loop-i-preserved c = entries_more c.args.table.now c.loop-i-test.true c.loop-i.invariant c.write_entry.ensures

pub returns : goal.returns
returns c = all_wrote component_of entry_row 64 88 c.args.table.now (omega arith) c.loop-i.invariant

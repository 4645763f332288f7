-- `put_entry` meets its contract. Assumes nothing.
use native.Mathlib.Omega.{arith}
use Rattle.direct_rows.proofs.Laws.Put.{entry-put}
use Rattle.direct_rows.proofs.put.put_entry.Goals as goal

pub returns : goal.returns
returns c = entry-put c.if-s-ne-MODEL_SIZE.false c.args.entry (omega arith) c.write_tag.ensures c.write_component.ensures

-- `put_list` meets its contract. Assumes nothing.
use native.Mathlib.Omega.{arith}
use Rattle.direct_rows.proofs.Laws.Put.{list_put}
use Rattle.direct_rows.proofs.put.put_list.Goals as goal

pub returns : goal.returns
returns c = list_put c.if-s-ne-MODEL_SIZE.false _ (omega arith) (omega arith) c.write_tag.ensures c.write_number.ensures c.write_places.ensures

-- `input_rows::unassigned_row` meets its contract. Assumes nothing.
use Rattle.input_rows.proofs.Laws.Inputs.{unassigned_row}
use Rattle.input_rows.proofs.unassigned_row.Goals as goal

pub returns : goal.returns
returns c = unassigned_row c.args.t c.args.k

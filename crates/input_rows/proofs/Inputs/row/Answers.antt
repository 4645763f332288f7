-- `input_rows::Inputs::row` meets its contract. Assumes nothing.
use Rattle.input_rows.proofs.Laws.Inputs.{given_row}
use Rattle.input_rows.proofs.Inputs.row.Goals as goal

pub returns : goal.returns
returns c = given_row c.args.self _ _ _ c.tag_of.ensures c.tag_of-2.ensures c.tag_of-3.ensures c.args.t c.args.k

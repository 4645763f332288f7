-- `read_components` meets its contract. Assumes nothing.
use Rattle.std.proofs.Common.{rules}
use Rattle.model_bytes.proofs.Laws.Reading.{rows_read}
use Rattle.model_bytes.proofs.decode.read_components.Goals as goal

pub returns : goal.returns
returns c = rows_read _ _ _ c.args.n _ _ _ c.read_rows.result (search rules) c.read_rows.ensures (λ i o l k. search rules)

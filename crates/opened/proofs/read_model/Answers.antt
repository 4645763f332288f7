-- `read_model` meets its contract. Assumes nothing.
use Rattle.opened.proofs.Laws.Said.{reads}
use Rattle.opened.proofs.read_model.Goals as goal

pub returns : goal.returns
returns c = reads _ c.decode.result _ _ c.decode.ensures c.plain.ensures c.ok_or.ensures.value

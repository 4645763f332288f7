-- `dw_rename_component` meets its contract. Assumes nothing.
use Rattle.direct_words.proofs.Laws.Direct.{taken_made, not_made}
use Rattle.calls.proofs.edits.dw_rename_component.Goals as goal

pub returns-in-Some : goal.returns-in-Some
returns-in-Some c = taken_made c.in-Some.ensures c.tell.ensures

pub returns : goal.returns
returns c = not_made c.in_default.ensures c.rename_component.ensures
